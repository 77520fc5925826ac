-- The items of a value after the word that chooses it (RFC 4506, section 4.15).
use Rattle.std.specs.Prelude.{ℕ, List, [], ◌∷◌}
use Rattle.xdr3.specs.Item.{Item, followed_by, Word}

abbrev pub tagged_items : {T : Type 0} → List ℕ → ℕ → (T → List Item) → T → List Item
tagged_items name tag items value = followed_by (Word name tag ∷ []) (items value)
