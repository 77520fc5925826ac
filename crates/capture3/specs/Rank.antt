-- Numbers by first appearance.
use Rattle.std.specs.Prelude.{◌≡◌, ℕ, ◌+◌, ◌-◌, ◌^◌, Bool, List, [], ◌∷◌, ◌++◌, length, if◌then◌else◌}
use Rattle.std.specs.List.{list_any}

module _ {K : Type 0} (same : K → K → Bool) where
  -- the keys, with k at the end if it is not among them
  abbrev pub with_key : List K → K → List K
  with_key keys k = if list_any (same k) keys then keys else keys ++ k ∷ []

  -- the keys after each member of l was added in turn
  abbrev pub with_keys : List K → List K → List K
  with_keys keys [] = keys
  with_keys keys (x ∷ l) = with_keys (with_key keys x) l

  -- the distinct members, in the order of their first places
  abbrev pub distinct : List K → List K
  distinct l = with_keys [] l

  -- what stands before x's first place, or all where x has none
  abbrev pub before : K → List K → List K
  before x [] = []
  before x (y ∷ l) = if same x y then [] else y ∷ before x l

  -- 1 plus the number of distinct members before x's first place
  abbrev pub rank : K → List K → ℕ
  rank x l = 1 + length (distinct (before x l))

  -- A table of numbers holds the distinct ones of the keys that were given.
  abbrev pub HoldsDistinct : List K → List K → Type 0
  HoldsDistinct table given = table ≡ distinct given

-- the most that a number of a table may be
abbrev pub number_limit : ℕ
number_limit = 2 ^ 32 - 1
