-- Masked texts, apart from the values that are masked.
use Rattle.masking3.proofs.Common.{◌≡◌, ℕ, ◌+◌, ◌≤◌, List, [], ◌∷◌, length, map, refl, sym, ap, ◌∙◌, arith, ◌==◌, bytes_eq, Option, None, Some, Decides-eqb, Item, Opaque, Text, residue, called, by_test, Class, ItemSpot, Way, Keep, Ways, class_of, class_value, KeepsAll, MasksAsMuch, RevealsNoMore, way_of, Machines, Raw, SillyNames, masked_item, masked_items, substitute, values_in, with_value, next_spot, emptied, less_by, text_size, and_parts, host_by, is_silly_name, silly_by, raw_by, text_by, with_text, zero_name, length-replicate, replicate, Rest}
use Rattle.masking3.proofs.Lemmas.Classes.SpotLemmas.{still_after}

-- ---- an item and its masked text

module _ (ways : Ways) where
  -- what is so of each item and itself, and of each text and each body and the masked one
  pub by_text : (P : Item → Item → Type 0) → ((i : Item) → P i i)
      → ((name bytes : List ℕ)
      → P (Opaque Text name bytes) (Opaque Text name (text_by ways name bytes)))
      → ((name bytes : List ℕ) → P (Rest name bytes) (Rest name (raw_by (way_of ways Raw) bytes)))
      → (i : Item) → P i (with_text ways i)
  by_text P same text raw (Opaque Text name b) = text name b
  by_text P same text raw (Rest name b) = raw name b
  by_text P same text raw i = same i

  text_apart : (spot : ItemSpot) (i : Item)
      → (class_of spot (with_text ways i) ≡ class_of spot i)
      × (class_value (with_text ways i) ≡ class_value i)
      × (next_spot spot (with_text ways i) ≡ next_spot spot i)
  text_apart spot (Opaque Text name b) = (
    refl,
    refl,
    still_after spot (Opaque Text name (text_by ways name b)) tt
        ∙ sym (still_after spot (Opaque Text name b) tt),
  )
  text_apart spot (Rest name b) = (
    refl,
    refl,
    still_after spot (Rest name (raw_by (way_of ways Raw) b)) tt
        ∙ sym (still_after spot (Rest name b) tt),
  )
  text_apart spot i = (refl, refl, refl)

  pub text_spot : (spot : ItemSpot) (i : Item)
      → next_spot spot (with_text ways i) ≡ next_spot spot i
  text_spot spot i = (text_apart spot i).2

  -- ---- values stay

  pub texts_values : (d : Class) (spot : ItemSpot) (l : List Item)
      → values_in d spot (map (with_text ways) l) ≡ values_in d spot l
  texts_values d spot [] = refl
  texts_values d spot (i ∷ l) =
      let same = text_apart spot i in
      rw (same.0, same.1, same.2, texts_values d (next_spot spot i) l) refl

  -- ---- values may be masked first

  text_with : (i : Item) (o : Option ℕ)
      → with_value (with_text ways i) o ≡ with_text ways (with_value i o)
  text_with i None = refl
  text_with (Opaque Text name b) (Some m) = refl
  text_with (Rest name b) (Some m) = refl
  text_with i (Some m) = refl

  module _ (others : Ways) (seen : Class → List ℕ) where
    item_masked : (spot : ItemSpot) (i : Item)
        → masked_item others seen spot (with_text ways i)
        ≡ with_text ways (masked_item others seen spot i)
    item_masked spot i =
        rw ((text_apart spot i).0, (text_apart spot i).1)
        (text_with i (substitute others seen (class_of spot i) (class_value i)))

    pub texts_masked : (spot : ItemSpot) (l : List Item)
        → masked_items others seen spot (map (with_text ways) l)
        ≡ map (with_text ways) (masked_items others seen spot l)
    texts_masked spot [] = refl
    texts_masked spot (i ∷ l) =
        rw (item_masked spot i, text_spot spot i, texts_masked (next_spot spot i) l) refl

-- ---- no more bytes

zero_length : (b : List ℕ) → length (zero_name b) ≡ length b
zero_length b = by_test (is_silly_name b)
    (λ t. rw t (sym ((Decides-eqb (length b) 28).0 (and_parts (length b == 28) _ t).0)))
    (λ f. rw f refl)

silly_length : (way : Way) (b : List ℕ) → length (silly_by way b) ≡ length b
silly_length Keep b = refl
silly_length way b = zero_length b

host_length : (way : Way) (b : List ℕ) → length (host_by way b) ≤ length b
host_length Keep b = omega arith
host_length way b = omega arith

pub raw_length : (way : Way) (b : List ℕ) → length (raw_by way b) ≡ length b
raw_length Keep b = refl
raw_length way b = length-replicate {A = ℕ} (length b) 0

-- what is so of names of files, of names of hosts and of bytes that stay is so of each text's
pub by_name : (name : List ℕ) (P : (Ways → List ℕ → List ℕ) → Type 0)
    → P (λ ways b. silly_by (way_of ways SillyNames) b)
    → P (λ ways b. host_by (way_of ways Machines) b)
    → P (λ ways b. b) → P (λ ways b. text_by ways name b)
by_name name P file host other =
    by_test (bytes_eq name (called "name"))
    (λ t. rw t file)
    (λ f. by_test (bytes_eq name (called "hostname")) (λ t. rw (f, t) host) (λ g. rw (f, g) other))

pub text_shorter : (ways : Ways) (name b : List ℕ) → length (text_by ways name b) ≤ length b
text_shorter ways name b =
    by_name name (λ f. length (f ways b) ≤ length b)
    (omega (arith, silly_length (way_of ways SillyNames) b)) (host_length (way_of ways Machines) b)
    (omega arith)

-- ---- what has no bytes has none

module _ (ways : Ways) where
  pub text_emptied : (i : Item) → with_text ways (emptied i) ≡ emptied (with_text ways i)
  text_emptied (Opaque Text name b) =
      ap (Opaque Text name) (by_name name (λ f. f ways [] ≡ [])
      (elim (way_of ways SillyNames) as (λ way. silly_by way [] ≡ []) [ Keep ↦ refl | _ ↦ refl ])
      (elim (way_of ways Machines) as (λ way. host_by way [] ≡ []) [ Keep ↦ refl | _ ↦ refl ]) refl)
  text_emptied i = refl

  pub text_less : (size : ℕ) (i : Item)
      → with_text ways (less_by size i) ≡ less_by size (with_text ways i)
  text_less size (Opaque Text name b) = refl
  text_less size i = refl

-- ---- masking as much or more leaves nothing of masking before

zero_again : (b : List ℕ) → zero_name (zero_name b) ≡ zero_name b
zero_again b = by_test (is_silly_name b) (λ t. rw t refl) (λ f. rw (f, f) refl)

silly_absorbed : (w v : Way) → RevealsNoMore w v → (b : List ℕ)
    → silly_by v (silly_by w b) ≡ silly_by v b
silly_absorbed Keep v t b = refl
silly_absorbed w Keep t b = absurd t
silly_absorbed w v t b = zero_again b

host_absorbed : (w v : Way) → RevealsNoMore w v → (b : List ℕ)
    → host_by v (host_by w b) ≡ host_by v b
host_absorbed Keep v t b = refl
host_absorbed w Keep t b = absurd t
host_absorbed w v t b = refl

raw_absorbed : (w v : Way) → RevealsNoMore w v → (b : List ℕ) → raw_by v (raw_by w b) ≡ raw_by v b
raw_absorbed Keep v t b = refl
raw_absorbed w Keep t b = absurd t
raw_absorbed w v t b = ap (λ n. replicate n 0) (length-replicate {A = ℕ} (length b) 0)

module _ (ways others : Ways) (much : MasksAsMuch ways others) where
  pub text_absorbed : (i : Item) → with_text others (with_text ways i) ≡ with_text others i
  text_absorbed i =
      by_text ways (λ i j. with_text others j ≡ with_text others i) (λ i. refl)
      (λ name b.
      ap (Opaque Text name) (by_name name (λ f. f others (f ways b) ≡ f others b)
      (silly_absorbed (way_of ways SillyNames) (way_of others SillyNames) (much SillyNames) b)
      (host_absorbed (way_of ways Machines) (way_of others Machines) (much Machines) b) refl))
      (λ name b. ap (Rest name) (raw_absorbed (way_of ways Raw) (way_of others Raw) (much Raw) b)) i

  pub texts_absorbed : (l : List Item)
      → map (with_text others) (map (with_text ways) l) ≡ map (with_text others) l
  texts_absorbed [] = refl
  texts_absorbed (i ∷ l) = rw (text_absorbed i, texts_absorbed l) refl

-- ---- sizes under ways that empty names of machines

module _ (ways others : Ways) (first : (b : List ℕ) → host_by (way_of ways Machines) b ≡ [])
    (second : (b : List ℕ) → host_by (way_of others Machines) b ≡ []) where
  pub same_size : (i : Item) → text_size (with_text ways i) ≡ text_size (with_text others i)
  same_size (Opaque Text name b) =
      ap (λ (n : ℕ). n + residue n) (by_name name (λ f. length (f ways b) ≡ length (f others b))
      (silly_length (way_of ways SillyNames) b ∙ sym (silly_length (way_of others SillyNames) b))
      (rw (first b, second b) refl) refl)
  same_size i = refl

-- ---- texts that stay

module _ (ways : Ways) (keeps : KeepsAll ways) where
  text_kept : (i : Item) → with_text ways i ≡ i
  text_kept i =
      by_text ways (λ i j. j ≡ i) (λ i. refl)
      (λ name b.
      ap (Opaque Text name)
      (by_name name (λ f. f ways b ≡ b) (rw (keeps SillyNames) refl) (rw (keeps Machines) refl)
      refl))
      (λ name b. rw (keeps Raw) refl) i

  pub texts_kept : (l : List Item) → map (with_text ways) l ≡ l
  texts_kept [] = refl
  texts_kept (i ∷ l) = rw (text_kept i, texts_kept l) refl
