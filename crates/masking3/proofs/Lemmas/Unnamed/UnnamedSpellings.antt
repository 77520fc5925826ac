-- A call without the name of its machine has a spelling, and no longer one.
use Rattle.masking3.proofs.Common.{◌⊎◌, ◌≡◌, ◌≤◌, inl, inr, none, more, ℕ, zero, suc, List, [], ◌∷◌, length, refl, arith, bytes_eq, called, zero_spelled_one, by_test, Item, Word, Opaque, Text, Spells, SpellsItem, zero_spelling, zero_spelling_of, AreBytes-nil, after_first, emptied, length_of_opaque, less_by, text_size, unnamed_credential, unnamed_items}
use Rattle.canon3.proofs.Lemmas.Changes.Shapes.{Become, IsSpelledAnew, spelled_anew}

-- an item stays, or it is the length of a credential that is less, or a text without its bytes
abbrev IsUnnamed : Item → Item → Type 0
IsUnnamed i j = (j ≡ i) ⊎ ((size : ℕ) × (j ≡ less_by size i)) ⊎ (j ≡ emptied i)

all_same : (l : List Item) → Become IsUnnamed l l
all_same [] = none
all_same (i ∷ l) = more (inl refl) (all_same l)

unnamed_become : (n : ℕ) (l : List Item)
    → Become IsUnnamed l (after_first n unnamed_credential l)
unnamed_become zero (i ∷ j ∷ k ∷ l) =
    more (inr (inl (text_size k, refl))) (more (inl refl) (more (inr (inr refl)) (all_same l)))
unnamed_become (suc n) (i ∷ l) = more (inl refl) (unnamed_become n l)
unnamed_become n l = all_same l

less_spelled : (size : ℕ) (i : Item) (bytes : List ℕ) → SpellsItem i bytes
    → SpellsItem (less_by size i) (zero_spelling_of (less_by size i))
    × (length (zero_spelling_of (less_by size i)) ≤ length (zero_spelling_of i))
less_spelled size (Word name n) bytes p = by_test (bytes_eq name (called "cred_length"))
    (λ t. rw t ((omega (arith, p.0), refl), omega arith))
    (λ f. rw f ((p.0, refl), omega arith))
less_spelled size i bytes p = (zero_spelled_one i bytes p, omega arith)

emptied_spelled : (i : Item) (bytes : List ℕ) → SpellsItem i bytes
    → SpellsItem (emptied i) (zero_spelling_of (emptied i))
    × (length (zero_spelling_of (emptied i)) ≤ length (zero_spelling_of i))
emptied_spelled (Opaque Text name b) bytes p =
    (([], omega arith, AreBytes-nil, refl, AreBytes-nil, refl), omega (arith, length_of_opaque b))
emptied_spelled i bytes p = (zero_spelled_one i bytes p, omega arith)

is_spelled : IsSpelledAnew IsUnnamed
is_spelled i j bytes (inl e) p = rw e (zero_spelled_one i bytes p, omega arith)
is_spelled i j bytes (inr (inl (size, e))) p = rw e (less_spelled size i bytes p)
is_spelled i j bytes (inr (inr e)) p = rw e (emptied_spelled i bytes p)

pub unnamed_spelled : (l : List Item) (bytes : List ℕ) → Spells l bytes
    → Spells (unnamed_items l) (zero_spelling (unnamed_items l))
    × (length (zero_spelling (unnamed_items l)) ≤ length (zero_spelling l))
unnamed_spelled l bytes p =
    spelled_anew IsUnnamed is_spelled l (unnamed_items l) bytes p (unnamed_become 7 l)
