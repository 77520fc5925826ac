-- What a source tells of its bytes, and what its reads do to that.
use Rattle.std.specs.Prelude.{◌≡◌, ℕ, ◌<◌, Bool, true, Option, Some, Result, MatchResult, List, [], ◌++◌, length, take}
use Rattle.std.specs.Io.KnownBytes.{Appends, Consumes, IsAtEnd}

-- The bytes that reads will give from here on, if they are known; the bytes that reads gave, if
-- that is kept; and whether the last read that did not fail gave none.
pub record Observed : Type 0 where
  pub left : Option (List ℕ)
  pub given : Option (List ℕ)
  pub is_spent : Bool

-- from the one state to the other the source gave these bytes
abbrev pub Gave : (old new : Observed) → List ℕ → Type 0
Gave old new bytes = Consumes old.left new.left bytes × Appends old.given new.given bytes

-- the last read gave none, and no byte is left
abbrev pub IsSpent : Observed → Type 0
IsSpent observed = (observed.is_spent ≡ true) × IsAtEnd observed.left

-- `read_some(buf)` gave the n bytes that it put at the front at `Ok(n)`, none only at the end or
-- with no room, and none at `Err`
abbrev pub ReadGives : {E : Type 0} → (old new : Observed) → Result ℕ E → List ℕ → Type 0
ReadGives old new result buf =
    MatchResult result (λ n. Gave old new (take n buf)
    × (n ≡ 0 → 0 < length buf → IsSpent new)) (λ _. Gave old new [])

-- whether the last read that did not fail gave none
abbrev pub UpdatesSpent : {E : Type 0} → (old new : Observed) → Result ℕ E → Type 0
UpdatesSpent old new result =
    MatchResult result (λ n. new.is_spent ≡ true → n ≡ 0) (λ _. new.is_spent ≡ old.is_spent)

-- The source keeps which bytes its reads gave. From the one state to the other they gave a prefix
-- of these bytes, and all of them if the last read gave none.
pub record GavePrefix (old new : Observed) (bytes : List ℕ) : Type 0 where
  pub start : List ℕ
  pub given : List ℕ
  pub rest : List ℕ
  pub was : old.given ≡ Some start
  pub now : new.given ≡ Some (start ++ given)
  pub split : bytes ≡ given ++ rest
  pub all : IsSpent new → rest ≡ []
