-- The items of groups (RFC 5531, appendix A).
use Rattle.std.specs.Prelude.{ℕ, List, [], ◌∷◌}
use Rattle.xdr3.specs.Combined.{counted_items}
use Rattle.xdr3.specs.Item.{Item, Word, called}

abbrev pub group_items : ℕ → List Item
group_items n = Word (called "group") n ∷ []

abbrev pub count_items : List ℕ → List Item
count_items groups = counted_items (called "gids") group_items groups
