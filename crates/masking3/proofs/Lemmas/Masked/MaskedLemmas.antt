-- What later values leave of the masked form, and how it grows.
use Rattle.masking3.proofs.Common.{◌≡◌, ℕ, false, List, [], ◌∷◌, ◌++◌, map, refl, sym, ap, ◌∙◌, append_assoc, append-nil, ⊤, nat_eq, Option, None, Some, AllByRecursion, flat_map, Decides-eqb, flat_map-append, map-append, Item, Entry, Call, Reply, AreFirst, Member, here, Class, ItemSpot, InCall, InReply, Way, Number, Ways, class_of, position, class_value, next_spot, named_entry, names_by, way_of, bytes_of, entry_bytes, are_some, magic_unless, by_way, is_zero_that_stays, masked, masked_bytes, masked_entry, masked_item, masked_items, masked_values, number_among, substitute, value_in, value_where, values, values_in, values_in_entry, with_value, by_test, member-append_left, member-append_right, rank-append}
use Rattle.capture3.specs.Capture.{One, magic}
use Rattle.masking3.proofs.Lemmas.Classes.ClassLemmas.{seen_alike}

-- ---- numbers stay

pub value_given : (d : Class) (n : ℕ) → is_zero_that_stays d n ≡ false
    → value_where d (Some d) n ≡ n ∷ []
value_given d n f = rw (f, (Decides-eqb (position d) (position d)).1 refl) refl

-- ---- values that were seen

-- the value of an item at this spot, where it has one, is among these of its class
abbrev pub IsAmong : (Class → List ℕ) → ItemSpot → Item → Type 0
IsAmong seen spot i = (d : Class) → class_of spot i ≡ Some d
    → is_zero_that_stays d (class_value i) ≡ false → Member (class_value i) (seen d)

abbrev pub ItemsAreAmong : (Class → List ℕ) → ItemSpot → List Item → Type 0
ItemsAreAmong seen spot [] = ⊤
ItemsAreAmong seen spot (i ∷ items) =
    IsAmong seen spot i × ItemsAreAmong seen (next_spot spot i) items

abbrev pub EntryIsAmong : (Class → List ℕ) → Entry → Type 0
EntryIsAmong seen (Call items) = ItemsAreAmong seen InCall items
EntryIsAmong seen (Reply id items) = ItemsAreAmong seen InReply items
EntryIsAmong seen _ = ⊤

abbrev pub AreAmong : (Class → List ℕ) → List Entry → Type 0
AreAmong seen entries = AllByRecursion (EntryIsAmong seen) entries

module _ (seen : Class → List ℕ) where
  pub items_among : (spot : ItemSpot) (items : List Item)
      → ((d : Class) (x : ℕ) → Member x (values_in d spot items) → Member x (seen d))
      → ItemsAreAmong seen spot items
  items_among spot [] within = tt
  items_among spot (i ∷ items) within = (
    (λ d is f.
        within d (class_value i)
        (member-append_left (values_in d (next_spot spot i) items)
        (rw (is, value_given d (class_value i) f) here))),
    items_among (next_spot spot i) items
        (λ d x m. within d x (member-append_right (value_in d spot i) m)),
  )

  entry_among : (e : Entry)
      → ((d : Class) (x : ℕ) → Member x (values_in_entry d e) → Member x (seen d))
      → EntryIsAmong seen e
  entry_among (Call items) within = items_among InCall items within
  entry_among (Reply id items) within = items_among InReply items within
  entry_among _ within = tt

  all_among : (entries : List Entry)
      → ((d : Class) (x : ℕ) → Member x (values entries d) → Member x (seen d))
      → AreAmong seen entries
  all_among [] within = tt
  all_among (e ∷ entries) within = (
    entry_among e (λ d x m. within d x (member-append_left (values entries d) m)),
    all_among entries (λ d x m. within d x (member-append_right (values_in_entry d e) m)),
  )

pub among_own : (entries : List Entry) → AreAmong (values entries) entries
among_own entries = all_among (values entries) entries (λ d x m. m)

-- ---- more values leave what is masked

module _ (ways : Ways) (seen more : Class → List ℕ) where
  abbrev followed : Class → List ℕ
  followed d = seen d ++ more d

  way_stays : (w : Way) (d : Class) (n : ℕ)
      → number_among (followed d) d n ≡ number_among (seen d) d n
      → by_way w (followed d) d n ≡ by_way w (seen d) d n
  way_stays Number d n e = ap Some e
  way_stays w d n e = refl

  substitute_stays : (spot : ItemSpot) (i : Item) (o : Option Class) → class_of spot i ≡ o
      → IsAmong seen spot i
      → substitute ways followed o (class_value i) ≡ substitute ways seen o (class_value i)
  substitute_stays spot i None is among = refl
  substitute_stays spot i (Some d) is among =
      way_stays (way_of ways d) d (class_value i) (by_test (is_zero_that_stays d (class_value i))
      (λ t. rw t refl)
      (λ f. rw f (rank-append nat_eq Decides-eqb (more d) (among d is f))))

  pub items_stay : (spot : ItemSpot) (items : List Item) → ItemsAreAmong seen spot items
      → masked_items ways followed spot items ≡ masked_items ways seen spot items
  items_stay spot [] among = refl
  items_stay spot (i ∷ items) among =
      let stays = substitute_stays spot i (class_of spot i) refl among.0 in
      cc (stays, items_stay (next_spot spot i) items among.1)

  entries_stay : (a : List Entry) → AreAmong seen a
      → map (masked_entry ways followed) a ≡ map (masked_entry ways seen) a
  entries_stay [] among = refl
  entries_stay (Call m ∷ a) among = cc (items_stay InCall m among.0, entries_stay a among.1)
  entries_stay (Reply id m ∷ a) among = cc (items_stay InReply m among.0, entries_stay a among.1)
  entries_stay (e ∷ a) among = cc (entries_stay a among.1)

-- an item that has no class stays
pub unmasked : (ways : Ways) (seen : Class → List ℕ) (spot : ItemSpot) (i : Item)
    → class_of spot i ≡ None → masked_item ways seen spot i ≡ i
unmasked ways seen spot i none =
    ap (λ o. with_value i (substitute ways seen o (class_value i))) none

-- ---- the form grows

module _ (ways : Ways) where
  abbrev values_after : (a b : List Entry) → List Entry
  values_after a b = map (masked_entry ways (values (a ++ b))) b

  abbrev pub after : (a b : List Entry) → List Entry
  after a b = names_by ways (values_after a b)

  values-append : (a b : List Entry)
      → masked_values ways (a ++ b) ≡ masked_values ways a ++ values_after a b
  values-append a b =
      map-append (masked_entry ways (values (a ++ b))) a b
      ∙ ap (λ (l : List Entry). l ++ values_after a b)
      (ap (λ (seen : Class → List ℕ). map (masked_entry ways seen) a)
      (seen_alike (values (a ++ b)) (λ d. values a d ++ values b d)
      (λ d. flat_map-append (values_in_entry d) a b))
      ∙ entries_stay ways (values a) (values b) a (among_own a))

  pub masked-append : (a b : List Entry) → masked ways (a ++ b) ≡ masked ways a ++ after a b
  masked-append a b =
      ap (names_by ways) (values-append a b)
      ∙ map-append (named_entry ways) (masked_values ways a) (values_after a b)

  form_some : (e : Entry) (a b : List Entry)
      → masked_bytes ways ((e ∷ a) ++ b)
      ≡ masked_bytes ways (e ∷ a) ++ flat_map entry_bytes (after (e ∷ a) b)
  form_some e a b =
      ap bytes_of (masked-append (e ∷ a) b)
      ∙ ap (λ (l : List ℕ). magic One ++ l)
      (flat_map-append entry_bytes (masked ways (e ∷ a)) (after (e ∷ a) b))
      ∙ sym (append_assoc (magic One) (flat_map entry_bytes (masked ways (e ∷ a))) _)

  -- what the first entries are written as is a front of what all are
  pub form_fronts : (a b : List Entry) → AreFirst (a ++ b)
      → (back : List ℕ) × (masked_bytes ways (a ++ b) ≡ masked_bytes ways a ++ back)
  form_fronts [] b first = (masked_bytes ways b, refl)
  form_fronts (e ∷ a) b first = (flat_map entry_bytes (after (e ∷ a) b), form_some e a b)

  -- one entry more
  abbrev pub last_bytes : (a : List Entry) (one : Entry) → List ℕ
  last_bytes a one = entry_bytes (named_entry ways (masked_entry ways (values (a ++ one ∷ [])) one))

  pub form_grows : (a : List Entry) (one : Entry)
      → masked_bytes ways (a ++ one ∷ [])
      ≡ (masked_bytes ways a ++ magic_unless (are_some a)) ++ last_bytes a one
  form_grows [] one = ap (λ (l : List ℕ). magic One ++ l) (append-nil (last_bytes [] one))
  form_grows (e ∷ a) one =
      cc (
        form_some e a (one ∷ []),
        append-nil (masked_bytes ways (e ∷ a)),
        append-nil (last_bytes (e ∷ a) one),
      )
