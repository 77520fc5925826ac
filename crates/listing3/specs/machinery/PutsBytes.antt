-- Bytes that are put into a buffer.
use Rattle.std.specs.Prelude.{◌≡◌, ℕ, List, ◌++◌, length, take}

-- From the old buffer to the new one, these bytes were put between the two positions. What stands
-- before them is as it was, and the buffer is as long.
abbrev pub PutsBytes : (old new : List ℕ) (at end : ℕ) → (bytes : List ℕ) → Type 0
PutsBytes old new at end bytes = (take end new ≡ take at old ++ bytes) × (length new ≡ length old)
