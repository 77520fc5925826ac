-- Items that follow others, as a list.
use Rattle.std.proofs.Common.{◌≡◌, List, ◌++◌, refl}
use Rattle.xdr3.specs.Item.{Item, followed_by}

pub followed_items : (xs ys : List Item) → followed_by xs ys ≡ xs ++ ys
unfolding followed_by
followed_items xs ys = refl
