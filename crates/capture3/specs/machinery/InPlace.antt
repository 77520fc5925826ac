-- A joiner that leaves a whole record where it lies, as contracts see it.
use Rattle.std.specs.Prelude.{◌≡◌, ◌≤◌, ℕ, Bool, true, false, List, drop, length}
use Rattle.record_mark.specs.Taking.{Taking, IsWhole, body_of}

-- What it has taken, how many bytes of a body fit before its memory has to grow, and whether the
-- record that is whole lies where it was taken from.
pub record InPlaceState : Type 0 where
  pub taking : Taking
  pub capacity : ℕ
  pub lies : Bool

-- a record that is whole was copied
abbrev pub IsCopied : InPlaceState → Type 0
IsCopied joiner = IsWhole joiner.taking → joiner.lies ≡ false

-- the body is what follows a header of four bytes (RFC 5531, section 11)
abbrev pub FollowsHeader : List ℕ → List ℕ → Type 0
FollowsHeader piece body = (4 ≤ length piece) × (drop 4 piece ≡ body)

-- a record that is whole was copied, or this piece is the record
abbrev pub LiesIn : InPlaceState → List ℕ → Type 0
LiesIn joiner piece =
    IsWhole joiner.taking → joiner.lies ≡ true → FollowsHeader piece (body_of joiner.taking)
