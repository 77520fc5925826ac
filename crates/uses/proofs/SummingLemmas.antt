-- What items and entries add to the sums.
use Rattle.uses.proofs.Common.{◌≡◌, ℕ, ◌+◌, min, List, [], ◌∷◌, ◌++◌, ap, arith, ◌∙◌, sum_by, sum_by-append, sum_by-cons, Item}
use Rattle.uses.specs.declared.summing.DataBytes.{DataBytes}
use Rattle.uses.specs.Summing.{data_bytes, HasSummed, largest}

sum_with_last : {X : Type 0} (f : X → ℕ) (items : List X) (one : X)
    → sum_by f (items ++ one ∷ []) ≡ sum_by f items + f one
sum_with_last f items one =
    let whole : sum_by f (items ++ one ∷ []) ≡ sum_by f items + sum_by f (one ∷ []) =
    sum_by-append f items (one ∷ []) in
    let last : sum_by f (one ∷ []) ≡ f one + sum_by f [] = sum_by-cons f one [] in
    omega (arith, whole, last)

-- an item of no data leaves the sum
pub no_data : (visitor : DataBytes) (items : List Item) (item : Item) → data_bytes item ≡ 0
    → HasSummed visitor items
    → HasSummed visitor (items ++ item ∷ [])
no_data visitor items item none sum =
    sum ∙ ap (λ n. min n largest) (omega (arith, none, sum_with_last data_bytes items item))

-- an item adds its bytes of data
pub more_data : (old new : DataBytes) (items : List Item) (item : Item)
    → new.sum ≡ min (old.sum + data_bytes item) largest
    → HasSummed old items → HasSummed new (items ++ item ∷ [])
more_data old new items item more sum =
    omega (arith, more, sum, sum_with_last data_bytes items item)
