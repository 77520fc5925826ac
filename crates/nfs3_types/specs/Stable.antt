-- The numbers of stable_how (RFC 1813, section 3.3.7).
use Rattle.std.specs.Prelude.{ℕ, List, [], ◌∷◌}
use Rattle.nfs3_types.specs.declared.values.stable.Stable.{Stable}
use Rattle.nfs3_types.specs.declared.values.stable.Stable.TheVariants.{Unstable, DataSync, FileSync}

-- stable_how (RFC 1813, section 3.3.7)
abbrev pub stable_words : List ℕ
stable_words = 0 ∷ 1 ∷ 2 ∷ []

abbrev pub stable_number : Stable → ℕ
stable_number Unstable = 0
stable_number DataSync = 1
stable_number FileSync = 2
