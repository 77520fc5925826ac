-- Names of machines and masked texts, apart from the values that are masked.
use Rattle.masking3.proofs.Common.{◌≡◌, ℕ, zero, suc, ◌-◌, true, false, List, [], ◌∷◌, map, refl, sym, ap, ◌∙◌, arith, bytes_eq, Option, None, Some, bytes_eq-Decides, Item, Word, Opaque, Text, called, Entry, Call, Reply, by_test, Class, ItemSpot, InCall, InReply, Way, Keep, Ways, class_of, class_of_word, class_value, masked_entry, masked_item, masked_items, masked_values, substitute, value_in, values, values_in, values_in_entry, with_value, KeepsAll, MasksAsMuch, RevealsNoMore, way_of, Machines, with_text, after_first, emptied, host_by, less_by, named_by, named_entry, names_by, text_size, unnamed_credential, unnamed_items}
use Rattle.masking3.proofs.Lemmas.Classes.ClassLemmas.{seen_alike}
use Rattle.masking3.proofs.Lemmas.Unnamed.TextsLemmas.{same_size, text_absorbed, text_emptied, text_less, texts_absorbed, texts_kept, texts_masked, texts_values}

-- ---- the length of a credential is of no class

pub free_length : (spot : ItemSpot) (name : List ℕ) → bytes_eq name (called "cred_length") ≡ true
    → class_of_word spot name ≡ None
unfolding called
free_length spot name t = rw ((bytes_eq-Decides name (called "cred_length")).0 t) refl

-- what is so where items stay, and where the name becomes empty, is so of each way
pub any_way : (P : (List Item → List Item) → Type 0) → P (λ l. l) → P unnamed_items → (way : Way)
    → P (named_by way)
any_way P keep empty Keep = keep
any_way P keep empty way = empty

-- ---- values stay

module _ (d : Class) where
  less_values : (size : ℕ) (i : Item) → value_in d InCall (less_by size i) ≡ value_in d InCall i
  less_values size (Word name n) = by_test (bytes_eq name (called "cred_length"))
      (λ t. rw (free_length InCall name t) refl)
      (λ f. rw f refl)
  less_values size i = refl

  emptied_values : (i : Item) → value_in d InCall (emptied i) ≡ value_in d InCall i
  emptied_values (Opaque Text name bytes) = refl
  emptied_values i = refl

  after_values : (n : ℕ) (l : List Item)
      → values_in d InCall (after_first n unnamed_credential l) ≡ values_in d InCall l
  after_values zero (i ∷ j ∷ k ∷ l) = rw (less_values (text_size k) i, emptied_values k) refl
  after_values (suc n) (i ∷ l) = rw (after_values n l) refl
  after_values n l = refl

  entry_values : (by : Ways) (e : Entry)
      → values_in_entry d (named_entry by e) ≡ values_in_entry d e
  entry_values by (Call items) =
      let l = map (with_text by) items in
      any_way (λ f. values_in d InCall (f l) ≡ values_in d InCall l) refl (after_values 7 l)
      (way_of by Machines) ∙ texts_values by d InCall items
  entry_values by (Reply id items) = texts_values by d InReply items
  entry_values by e = refl

  pub all_values : (by : Ways) (entries : List Entry)
      → values (names_by by entries) d ≡ values entries d
  all_values by [] = refl
  all_values by (e ∷ entries) = rw (entry_values by e, all_values by entries) refl

-- ---- values may be masked first

-- a name that is no length's
abbrev pub IsNoLength : Item → Type 0
IsNoLength (Word name n) = bytes_eq name (called "cred_length") ≡ false
IsNoLength _ = Unit

pub less_stays : (n : ℕ) (i : Item) → IsNoLength i → less_by n i ≡ i
less_stays n (Word name m) f = rw f refl
less_stays n i f = refl

less_with : (size : ℕ) (i : Item) (o : Option ℕ) → IsNoLength i
    → less_by size (with_value i o) ≡ with_value i o
less_with size i None f = less_stays size i f
less_with size (Word name n) (Some m) f = rw f refl
less_with size i (Some m) f = refl

size_with : (i : Item) (o : Option ℕ) → text_size (with_value i o) ≡ text_size i
size_with i None = refl
size_with (Word name n) (Some m) = refl
size_with i (Some m) = refl

emptied_with : (i : Item) (o : Option ℕ) → emptied (with_value i o) ≡ with_value (emptied i) o
emptied_with i None = refl
emptied_with (Opaque Text name bytes) (Some m) = refl
emptied_with i (Some m) = refl

module _ (ways : Ways) (seen : Class → List ℕ) where
  abbrev under : Item → Item
  under i = masked_item ways seen InCall i

  -- what stands for its value
  abbrev stands : Item → Option ℕ
  stands i = substitute ways seen (class_of InCall i) (class_value i)

  less_masked : (size : ℕ) (i : Item) → under (less_by size i) ≡ less_by size (under i)
  less_masked size (Word name n) = by_test (bytes_eq name (called "cred_length"))
      (λ t. rw (free_length InCall name t) refl)
      (λ f. rw f (sym (less_with size (Word name n) (stands (Word name n)) f)))
  less_masked size i = sym (less_with size i (stands i) tt)

  emptied_masked : (i : Item) → under (emptied i) ≡ emptied (under i)
  emptied_masked (Opaque Text name bytes) = refl
  emptied_masked i = sym (emptied_with i (stands i))

  after_masked : (n : ℕ) (l : List Item)
      → masked_items ways seen InCall (after_first n unnamed_credential l)
      ≡ after_first n unnamed_credential (masked_items ways seen InCall l)
  after_masked zero (i ∷ j ∷ k ∷ l) =
      rw (size_with k (stands k), less_masked (text_size k) i, emptied_masked k) refl
  after_masked (suc n) (i ∷ l) = rw (after_masked n l) refl
  after_masked n l = refl

  entry_masked : (by : Ways) (e : Entry)
      → masked_entry ways seen (named_entry by e) ≡ named_entry by (masked_entry ways seen e)
  entry_masked by (Call items) =
      let l = map (with_text by) items in
      rw (← texts_masked by ways seen InCall items) (ap Call (any_way
      (λ f. masked_items ways seen InCall (f l) ≡ f (masked_items ways seen InCall l)) refl
      (after_masked 7 l) (way_of by Machines)))
  entry_masked by (Reply id items) = ap (Reply id) (texts_masked by ways seen InReply items)
  entry_masked by e = refl

  entries_masked : (by : Ways) (entries : List Entry)
      → map (masked_entry ways seen) (names_by by entries)
      ≡ names_by by (map (masked_entry ways seen) entries)
  entries_masked by [] = refl
  entries_masked by (e ∷ entries) = rw (entry_masked by e, entries_masked by entries) refl

pub values_of_named : (ways by : Ways) (entries : List Entry)
    → masked_values ways (names_by by entries) ≡ names_by by (masked_values ways entries)
values_of_named ways by entries =
    rw (seen_alike (values (names_by by entries)) (values entries) (λ d. all_values d by entries))
    (entries_masked ways (values entries) by entries)

-- ---- once is enough

size_emptied : (i : Item) → text_size (emptied i) ≡ 0
size_emptied (Opaque Text name bytes) = refl
size_emptied i = refl

less_nothing : (i : Item) → less_by 0 i ≡ i
less_nothing (Word name n) =
    let none : n - 0 ≡ n = omega arith in
    by_test (bytes_eq name (called "cred_length")) (λ t. rw (t, none) refl) (λ f. rw f refl)
less_nothing i = refl

emptied_again : (i : Item) → emptied (emptied i) ≡ emptied i
emptied_again (Opaque Text name bytes) = refl
emptied_again i = refl

after_again : (n : ℕ) (l : List Item)
    → after_first n unnamed_credential (after_first n unnamed_credential l)
    ≡ after_first n unnamed_credential l
after_again zero (i ∷ j ∷ k ∷ l) =
    rw (size_emptied k, less_nothing (less_by (text_size k) i), emptied_again k) refl
after_again (suc n) (i ∷ l) = rw (after_again n l) refl
after_again n l = refl

-- ---- masking as much or more leaves nothing of masking before

module _ (ways others : Ways) (much : MasksAsMuch ways others) where
  abbrev before : Item → Item
  before = with_text ways

  abbrev later : Item → Item
  later = with_text others

  texts_later : (l : List Item) → map later (map before l) ≡ map later l
  texts_later = texts_absorbed ways others much

  after_later : ((b : List ℕ) → host_by (way_of ways Machines) b ≡ [])
      → ((b : List ℕ) → host_by (way_of others Machines) b ≡ []) → (n : ℕ) (l : List Item)
      → map later (after_first n unnamed_credential (map before l))
      ≡ after_first n unnamed_credential (map later l)
  after_later first second zero (i ∷ j ∷ k ∷ l) =
      rw (same_size ways others first second k, texts_later l)
      (simp (text_less others, text_emptied others, text_absorbed ways others much))
  after_later first second (suc n) (i ∷ l) =
      rw (text_absorbed ways others much i, after_later first second n l) refl
  after_later first second n l = texts_later l

  call_later : (w v : Way) → way_of ways Machines ≡ w → way_of others Machines ≡ v
      → RevealsNoMore w v
      → (l : List Item)
      → named_by v (map later (named_by w (map before l))) ≡ named_by v (map later l)
  call_later Keep v e f t l = ap (named_by v) (texts_later l)
  call_later w Keep e f t l = absurd t
  call_later w v e f t l =
      rw (after_later (λ b. rw e refl) (λ b. rw f refl) 7 l) (after_again 7 (map later l))

  entry_later : (e : Entry) → named_entry others (named_entry ways e) ≡ named_entry others e
  entry_later (Call items) =
      ap Call (call_later (way_of ways Machines) (way_of others Machines) refl refl (much Machines)
      items)
  entry_later (Reply id items) = ap (Reply id) (texts_later items)
  entry_later e = refl

  pub names_absorbed : (entries : List Entry)
      → names_by others (names_by ways entries) ≡ names_by others entries
  names_absorbed [] = refl
  names_absorbed (e ∷ entries) = rw (entry_later e, names_absorbed entries) refl

as_much : (way : Way) → RevealsNoMore way way
as_much Keep = tt
as_much way = tt

pub names_again : (ways : Ways) (entries : List Entry)
    → names_by ways (names_by ways entries) ≡ names_by ways entries
names_again ways entries =
    names_absorbed ways ways (λ class. as_much (way_of ways class)) entries

-- ---- names that stay

module _ (ways : Ways) (keeps : KeepsAll ways) where
  entry_kept : (e : Entry) → named_entry ways e ≡ e
  entry_kept (Call items) = rw (texts_kept ways keeps items, keeps Machines) refl
  entry_kept (Reply id items) = rw (texts_kept ways keeps items) refl
  entry_kept e = refl

  pub names_kept : (entries : List Entry) → names_by ways entries ≡ entries
  names_kept [] = refl
  names_kept (e ∷ entries) = rw (entry_kept e, names_kept entries) refl
