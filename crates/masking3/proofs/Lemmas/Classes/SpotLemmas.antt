-- Where the items of a message stand.
use Rattle.masking3.proofs.Common.{◌≡◌, ℕ, false, true, List, [], ◌∷◌, ◌++◌, refl, sym, ap, ◌∙◌, subst, append_assoc, bytes_eq-Decides, Item, Word, called, Side, Client, Server, by_test, cond_either, Class, ItemSpot, InCall, InReply, InDirectory, InWcc, Ways, class_of, class_of_word, masked_item, masked_items, value_in, values_in, ⊤, ◌==◌, bytes_eq, None, Some, after_word, next_spot, spot_after}

-- what is so of the spot, and of those after words, is so of the next one
by_next : (P : ItemSpot → Type 0) (spot : ItemSpot) (i : Item) → P spot
    → ((name : List ℕ) (n : ℕ) → i ≡ Word name n → P (after_word spot name n))
    → P (next_spot spot i)
by_next P InReply (Word name n) p w = w name n refl
by_next P InDirectory (Word name n) p w = w name n refl
by_next P spot i p w = p

-- ---- what moves nowhere

abbrev pub IsNoWord : Item → Type 0
IsNoWord (Word name n) = ⊥
IsNoWord _ = ⊤

pub still_after : (spot : ItemSpot) (i : Item) → IsNoWord i → next_spot spot i ≡ spot
still_after spot i other =
    by_next (λ s. s ≡ spot) spot i refl (λ name n e. absurd (subst IsNoWord e other))

before_free : (spot : ItemSpot) → class_of_word spot (called "before") ≡ None
unfolding called
before_free spot = refl

type_free : (spot : ItemSpot) → class_of_word spot (called "type") ≡ None
unfolding called
type_free spot = refl

pub free_name : (spot : ItemSpot) (name free : List ℕ) → class_of_word spot free ≡ None
    → bytes_eq name free ≡ true → class_of_word spot name ≡ None
free_name spot name free none t =
    subst (λ (n : List ℕ). class_of_word spot n ≡ None) (sym ((bytes_eq-Decides name free).0 t))
    none

word_still : (spot : ItemSpot) (name : List ℕ) (n : ℕ) (d : Class)
    → class_of_word spot name ≡ Some d
    → after_word spot name n ≡ spot
word_still spot name n d is = by_test (bytes_eq name (called "before"))
    (λ t. absurd (cc (is, free_name spot name (called "before") (before_free spot) t)))
    (λ f. by_test (bytes_eq name (called "type"))
    (λ t. absurd (cc (is, free_name spot name (called "type") (type_free spot) t)))
    (λ g. rw (f, g) refl))

-- an item of a class
pub still : (spot : ItemSpot) (i : Item) (d : Class) → class_of spot i ≡ Some d
    → next_spot spot i ≡ spot
still spot i d is =
    by_next (λ s. s ≡ spot) spot i refl
    (λ name n e. word_still spot name n d (subst (λ k. class_of spot k ≡ Some d) e is))

-- a word that is neither a `before` nor a `type` moves nowhere
pub still_name : (spot : ItemSpot) (name : List ℕ) (n : ℕ) → bytes_eq name (called "before") ≡ false
    → bytes_eq name (called "type") ≡ false → next_spot spot (Word name n) ≡ spot
still_name InCall name n f g = refl
still_name InReply name n f g = rw (f, g) refl
still_name InDirectory name n f g = rw (f, g) refl
still_name InWcc name n f g = refl

-- a word of this name has no class, and moves nowhere
pub record IsFree (name : List ℕ) : Type 0 where
  pub classless : (spot : ItemSpot) → class_of_word spot name ≡ None
  pub moves_not : (spot : ItemSpot) (n : ℕ) → next_spot spot (Word name n) ≡ spot

pub xid_free : IsFree (called "xid")
unfolding called
xid_free =
    record {
      classless = λ spot. refl;
      moves_not = λ spot n. still_name spot (called "xid") n refl refl;
    }

pub mtype_free : IsFree (called "mtype")
unfolding called
mtype_free =
    record {
      classless = λ spot. refl;
      moves_not = λ spot n. still_name spot (called "mtype") n refl refl;
    }

-- ---- the spots of each side

abbrev pub IsOn : Side → ItemSpot → Type 0
IsOn Client InCall = ⊤
IsOn Server InReply = ⊤
IsOn Server InDirectory = ⊤
IsOn Server InWcc = ⊤
IsOn _ _ = ⊥

word_on : (spot : ItemSpot) (name : List ℕ) (n : ℕ) → IsOn Server spot
    → IsOn Server (after_word spot name n)
word_on spot name n on =
    cond_either (IsOn Server) (bytes_eq name (called "before")) tt
    (cond_either (IsOn Server) (bytes_eq name (called "type"))
    (cond_either (IsOn Server) (n == 2) tt tt)
    on)

pub on_next : (side : Side) (spot : ItemSpot) (i : Item) → IsOn side spot
    → IsOn side (next_spot spot i)
on_next Client InCall i on = tt
on_next Client spot i on = absurd on
on_next Server spot i on = by_next (IsOn Server) spot i on (λ name n e. word_on spot name n on)

-- ---- items after others

pub values_in-append : (d : Class) (spot : ItemSpot) (a b : List Item)
    → values_in d spot (a ++ b) ≡ values_in d spot a ++ values_in d (spot_after spot a) b
values_in-append d spot [] b = refl
values_in-append d spot (i ∷ a) b =
    ap (λ (l : List ℕ). value_in d spot i ++ l) (values_in-append d (next_spot spot i) a b)
    ∙ sym (append_assoc (value_in d spot i) (values_in d (next_spot spot i) a)
    (values_in d (spot_after (next_spot spot i) a) b))

pub masked_items-append : (ways : Ways) (seen : Class → List ℕ) (spot : ItemSpot) (a b : List Item)
    → masked_items ways seen spot (a ++ b)
    ≡ masked_items ways seen spot a ++ masked_items ways seen (spot_after spot a) b
masked_items-append ways seen spot [] b = refl
masked_items-append ways seen spot (i ∷ a) b =
    ap (λ (l : List Item). masked_item ways seen spot i ∷ l)
    (masked_items-append ways seen (next_spot spot i) a b)
