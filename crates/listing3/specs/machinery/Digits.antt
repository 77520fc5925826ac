-- Digits of a number, with leading zeros; and halves of bytes, of four bits each.
use Rattle.std.specs.Prelude.{ℕ, ◌+◌, ◌/◌, ◌%◌, ◌<◌, List, [], ◌∷◌, ◌++◌, slice_index}

-- the two digits of a number below 100
abbrev pub two_digits : ℕ → List ℕ
two_digits n = (48 + n / 10) ∷ (48 + n % 10) ∷ []

-- the four digits of a number below 10,000
abbrev pub four_digits : ℕ → List ℕ
four_digits n = two_digits (n / 100) ++ two_digits (n % 100)

-- the eight digits of a number below 100,000,000
abbrev pub eight_digits : ℕ → List ℕ
eight_digits n = four_digits (n / 10000) ++ four_digits (n % 10000)

-- each number below 16, in its own place
abbrev pub halves_in_order : List ℕ
halves_in_order = 0 ∷ 1 ∷ 2 ∷ 3 ∷ 4 ∷ 5 ∷ 6 ∷ 7 ∷ 8 ∷ 9 ∷ 10 ∷ 11 ∷ 12 ∷ 13 ∷ 14 ∷ 15 ∷ []

-- each is below 16
abbrev pub AreHalves : List ℕ → Type 0
AreHalves halves = (i : ℕ) → slice_index halves i < 16
