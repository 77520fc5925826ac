-- The items of results by a status (RFC 1813, section 3.3).
use Rattle.std.specs.Prelude.{List, [], ◌∷◌}
use Rattle.xdr3.specs.Item.{Item, followed_by, Word, called}
use Rattle.nfs3_types.specs.declared.values.status.Res.{Res}
use Rattle.nfs3_types.specs.declared.values.status.Res.TheVariants.{Done, Failed}
use Rattle.nfs3_types.specs.Status.{failure_number}

abbrev pub items_by_status : {T F : Type 0} → (T → List Item) → (F → List Item) → Res T F
    → List Item
items_by_status done_items failed_items (Done x) =
    followed_by (Word (called "status") 0 ∷ []) (done_items x)
items_by_status done_items failed_items (Failed failure x) =
    followed_by (Word (called "status") (failure_number failure) ∷ []) (failed_items x)
