-- What the laws say of listings.
use Rattle.std.specs.Prelude.{◌≡◌, ℕ, zero, suc, List, [], ◌∷◌, ◌++◌}
use Rattle.capture3.specs.Entry.{Entry, Begin, Turn, Close, End}

-- so many connections without messages
abbrev pub silent : ℕ → List Entry
silent zero = []
silent (suc n) = Begin ∷ Turn ∷ Close ∷ silent n

-- The two captures are equal up to connections without messages at their ends.
pub record AreEqualUpToSilence (a b : List Entry) : Type 0 where
  pub same : List Entry
  pub first_silent : ℕ
  pub second_silent : ℕ
  pub first : a ≡ same ++ (silent first_silent ++ End ∷ [])
  pub second : b ≡ same ++ (silent second_silent ++ End ∷ [])
