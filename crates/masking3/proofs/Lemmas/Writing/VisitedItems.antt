-- What stands for the items of the messages before has their values and their handles.
use Rattle.masking3.proofs.Common.{◌≡◌, ℕ, List, [], ◌∷◌, ◌++◌, refl, sym, ap, ap₂, ◌∙◌, append-nil, Option, None, Some, flat_map, flat_map-append, Item, Word, Hyper, Fixed, Entry, Call, Reply, items_of, Class, ItemSpot, InCall, InReply, class_of, class_of_fixed, class_of_hyper, class_of_word, class_value, value_where, values, values_in, values_in_entry, next_spot, first_spot, handle_in, handles, handles_in, visited_entry, visited_item, visited_items, visited_value, values_so_far}
use Rattle.masking3.proofs.Lemmas.Classes.ClassLemmas.{seen_alike}
use Rattle.masking3.proofs.Lemmas.Classes.MessageSpotLemmas.{entry_side}

-- ---- values

module _ (d : Class) where
  visited_one : (o : Option Class) (i : Item)
      → visited_value d (visited_item o i) ≡ value_where d o (class_value i)
  visited_one (Some e) i = refl
  visited_one None (Hyper name n) = refl
  visited_one None i = refl

  pub visited_values : (spot : ItemSpot) (items : List Item)
      → flat_map (visited_value d) (visited_items spot items) ≡ values_in d spot items
  visited_values spot [] = refl
  visited_values spot (i ∷ items) =
      ap₂ (λ (l m : List ℕ). l ++ m) (visited_one (class_of spot i) i)
      (visited_values (next_spot spot i) items)

  values_of_entry : (e : Entry) → flat_map (visited_value d) (visited_entry e) ≡ values_in_entry d e
  values_of_entry (Call items) = visited_values InCall items
  values_of_entry (Reply id items) = visited_values InReply items
  values_of_entry e = refl

  values_before : (entries : List Entry)
      → flat_map (visited_value d) (flat_map visited_entry entries) ≡ values entries d
  values_before [] = refl
  values_before (e ∷ entries) =
      flat_map-append (visited_value d) (visited_entry e) (flat_map visited_entry entries)
      ∙ ap₂ (λ (l m : List ℕ). l ++ m) (values_of_entry e) (values_before entries)

  values_on_side : (e : Entry)
      → values_in d (first_spot (entry_side e)) (items_of e) ≡ values_in_entry d e
  values_on_side (Call items) = refl
  values_on_side e = refl

  with_last : (entries : List Entry) (one : Entry)
      → values_so_far (flat_map visited_entry entries) (entry_side one) (items_of one) d
      ≡ values (entries ++ one ∷ []) d
  with_last entries one =
      ap₂ (λ (l m : List ℕ). l ++ m) (values_before entries) (values_on_side one)
      ∙ sym (flat_map-append (values_in_entry d) entries (one ∷ [])
      ∙ ap (λ (l : List ℕ). values entries d ++ l) (append-nil (values_in_entry d one)))

-- the values so far, with those of the last entry
pub values_with_last : (entries : List Entry) (one : Entry)
    → values_so_far (flat_map visited_entry entries) (entry_side one) (items_of one)
    ≡ values (entries ++ one ∷ [])
values_with_last entries one =
    seen_alike (values_so_far (flat_map visited_entry entries) (entry_side one) (items_of one))
    (values (entries ++ one ∷ [])) (λ d. with_last d entries one)

visited_on_side : (e : Entry)
    → visited_entry e ≡ visited_items (first_spot (entry_side e)) (items_of e)
visited_on_side (Call items) = refl
visited_on_side e = refl

pub before_with_last : (entries : List Entry) (one : Entry)
    → flat_map visited_entry (entries ++ one ∷ [])
    ≡ flat_map visited_entry entries ++ visited_items (first_spot (entry_side one)) (items_of one)
before_with_last entries one =
    flat_map-append visited_entry entries (one ∷ [])
    ∙ ap (λ (l : List Item). flat_map visited_entry entries ++ l)
    (append-nil (visited_entry one) ∙ visited_on_side one)

-- ---- handles

without : (o : Option Class) (i : Item) → handle_in i ≡ [] → handle_in (visited_item None i) ≡ []
    → handle_in (visited_item o i) ≡ handle_in i
without None i e f = f ∙ sym e
without (Some d) i e f = sym e

visited_handle : (spot : ItemSpot) (i : Item)
    → handle_in (visited_item (class_of spot i) i) ≡ handle_in i
visited_handle spot (Word name n) = without (class_of_word spot name) (Word name n) refl refl
visited_handle spot (Hyper name n) = without (class_of_hyper spot name) (Hyper name n) refl refl
visited_handle spot (Fixed name b) = without (class_of_fixed name) (Fixed name b) refl refl
visited_handle spot i = refl

pub visited_handles : (spot : ItemSpot) (items : List Item)
    → handles_in (visited_items spot items) ≡ handles_in items
visited_handles spot [] = refl
visited_handles spot (i ∷ items) =
    ap₂ (λ (l m : List (List ℕ)). l ++ m) (visited_handle spot i)
    (visited_handles (next_spot spot i) items)

handles_of_entry : (e : Entry) → handles_in (visited_entry e) ≡ handles_in (items_of e)
handles_of_entry (Call items) = visited_handles InCall items
handles_of_entry (Reply id items) = visited_handles InReply items
handles_of_entry e = refl

pub handles_before : (entries : List Entry)
    → handles_in (flat_map visited_entry entries) ≡ handles entries
handles_before [] = refl
handles_before (e ∷ entries) =
    flat_map-append handle_in (visited_entry e) (flat_map visited_entry entries)
    ∙ ap₂ (λ (l m : List (List ℕ)). l ++ m) (handles_of_entry e) (handles_before entries)
