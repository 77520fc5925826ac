-- What a sink has taken of bytes, also where it fails, and what of it was flushed.
use Rattle.std.specs.Prelude.{◌≡◌, ℕ, List, ◌++◌, Option, None, Some, ⊤}
use Rattle.std.specs.Io.KnownBytes.{Appends}

-- known bytes grow by a front of these
abbrev pub AppendsFront : Option (List ℕ) → Option (List ℕ) → List ℕ → Type 0
AppendsFront old new bytes = (front : List ℕ) × (back : List ℕ) × (bytes ≡ front ++ back)
    × Appends old new front

-- all that a sink has was flushed, where it tells what was
abbrev pub IsFlushed : (written flushed : Option (List ℕ)) → Type 0
IsFlushed written None = ⊤
IsFlushed written (Some bytes) = written ≡ Some bytes
