-- Fields whose classes are known by their names.
use Rattle.masking3.proofs.Common.{◌≡◌, ℕ, ◌+◌, true, false, List, [], ◌∷◌, ◌++◌, refl, sym, ap, ap₂, ◌∙◌, subst, by_test, and_parts, bytes_eq, bytes_eq-Decides, drop, map, list_all, AllByRecursion, Option, None, Some, Item, Word, Hyper, Class, ItemSpot, Ways, called, class_of, class_of_hyper, class_of_word, class_value, big_number, substitute, value_where, values_in, masked_items, with_text, with_value, handle_in, handles_in, next_spot, spot_after, Way, Keep, Number, way_of, InCall, Owners}
use Rattle.std.proofs.lemmas.List.{drop-drop}
use Rattle.std.specs.List.{list_any}
use Rattle.xdr3.specs.declared.plain.PlainField.{PlainField}
use Rattle.xdr3.specs.declared.plain.PlainField.TheVariants as fields
use Rattle.xdr3.specs.Plain.{run_items, run_size}
use Rattle.masking3.specs.Classes.{class_of_group, is_one_of, names_of_owners, names_of_times}
use Rattle.masking3.specs.machinery.KnownFields.{IsKeptItem, IsKnown, attribute_fields, attributes_in, is_free_name, is_keep, is_kept_field, is_kept_name, owner_names, field_item, numbered_from}
use Rattle.masking3.specs.machinery.UnnamedBody.{body_word}
use Rattle.masking3.proofs.Lemmas.Classes.ClassLemmas.{none_of_other}
use Rattle.masking3.proofs.Lemmas.Classes.SpotLemmas.{IsFree, still_after, still_name}

-- ---- words that stay

module _ (name : List ℕ) (free : is_free_name name ≡ true) where
  apart : (other : List ℕ) → is_free_name other ≡ false → bytes_eq name other ≡ false
  apart other not_free = by_test (bytes_eq name other)
      (λ t. let same : name ≡ other = (bytes_eq-Decides name other).0 t in
      absurd (cc (free, not_free, same)))
      (λ f. f)

  none_of : (others : List (List ℕ)) → AllByRecursion (λ other. is_free_name other ≡ false) others
      → list_any (bytes_eq name) others ≡ false
  none_of [] all = refl
  none_of (other ∷ others) (f, all) = rw (apart other f, none_of others all) refl

  free_classless : (spot : ItemSpot) → class_of_word spot name ≡ None
  unfolding called
  free_classless spot =
      rw (
        none_of names_of_times (refl, (refl, (refl, (refl, (refl, (refl, tt)))))),
        none_of ((called "stamp") ∷ []) (refl, tt),
        none_of ((called "invarsec") ∷ []) (refl, tt),
        none_of names_of_owners (refl, (refl, tt)),
        none_of ((called "group") ∷ []) (refl, tt),
        none_of ((called "nlink") ∷ []) (refl, tt),
      ) refl

  free_moves_not : (spot : ItemSpot) (n : ℕ) → next_spot spot (Word name n) ≡ spot
  unfolding called
  free_moves_not spot n =
      still_name spot name n (apart (called "before") refl) (apart (called "type") refl)

-- the class is none, or that of users and groups
abbrev IsOwned : Option Class → Type 0
IsOwned o = (d : Class) → o ≡ Some d → d ≡ Owners

-- a word of this name is a user or a group, if it has a class, and moves nowhere
record IsOwnerName (name : List ℕ) : Type 0 where
  owned : (spot : ItemSpot) → IsOwned (class_of_word spot name)
  owner_moves_not : (spot : ItemSpot) (n : ℕ) → next_spot spot (Word name n) ≡ spot

group_owned : (spot : ItemSpot) → IsOwned (class_of_group spot)
group_owned InCall d is = cc
group_owned spot d is = absurd cc

is_owner : (own name : List ℕ) → bytes_eq name own ≡ true
    → ((spot : ItemSpot) → IsOwned (class_of_word spot own))
    → bytes_eq own (called "before") ≡ false
    → bytes_eq own (called "type") ≡ false → IsOwnerName name
is_owner own name t owned f g =
    subst IsOwnerName (sym ((bytes_eq-Decides name own).0 t)) (record {
      owned = owned;
      owner_moves_not = λ spot n. still_name spot own n f g;
    })

among_owners : (name : List ℕ) → is_one_of owner_names name ≡ true → IsOwnerName name
unfolding called
among_owners name t = by_test (bytes_eq name (called "uid"))
    (λ u. is_owner (called "uid") name u (λ spot d is. cc) refl refl)
    (λ u. by_test (bytes_eq name (called "gid"))
    (λ g. is_owner (called "gid") name g (λ spot d is. cc) refl refl)
    (λ g. by_test (bytes_eq name (called "group"))
    (λ r. is_owner (called "group") name r group_owned refl refl)
    (λ r. let none : is_one_of owner_names name ≡ false = rw (u, g, r) refl in
    absurd (cc (t, none)))))

-- ---- items that stay

-- the item has no class whose values change, no handle and no text that is masked, and moves
-- nowhere
pub record Stays (ways : Ways) (i : Item) : Type 0 where
  pub keeps : (spot : ItemSpot) (d : Class) → class_of spot i ≡ Some d → way_of ways d ≡ Keep
  pub moves_not : (spot : ItemSpot) → next_spot spot i ≡ spot
  pub no_handle : handle_in i ≡ []
  pub same_text : with_text ways i ≡ i

abbrev pub AllStay : Ways → List Item → Type 0
AllStay ways items = AllByRecursion (Stays ways) items

-- a word without a class that moves nowhere
pub free_stays : (ways : Ways) (name : List ℕ) → IsFree name → (n : ℕ) → Stays ways (Word name n)
free_stays ways name free n = record {
  keeps = λ spot d is. absurd (cc (is, free.classless spot));
  moves_not = λ spot. free.moves_not spot n;
  no_handle = refl;
  same_text = refl;
}

is_kept_way : (w : Way) → is_keep w ≡ true → w ≡ Keep
is_kept_way Keep t = refl
is_kept_way way t = absurd cc

name_stays : (ways : Ways) (name : List ℕ) → is_kept_name (way_of ways Owners) name ≡ true → (n : ℕ)
    → Stays ways (Word name n)
name_stays ways name kept n = by_test (is_one_of owner_names name)
    (λ t. let h = among_owners name t in
    record {
      keeps =
          λ spot d is. ap (way_of ways) (h.owned spot d is)
          ∙ is_kept_way (way_of ways Owners) (rw t at kept);
      moves_not = λ spot. h.owner_moves_not spot n;
      no_handle = refl;
      same_text = refl;
    })
    (λ f. let free = rw f at kept in
    free_stays ways name
    (record { classless = free_classless name free; moves_not = free_moves_not name free }) n)

stays : (ways : Ways) (i : Item) → IsKeptItem (way_of ways Owners) i → Stays ways i
stays ways (Word name n) kept = name_stays ways name kept n
stays ways i kept = absurd kept

pub all_stay : (ways : Ways) (items : List Item)
    → AllByRecursion (IsKeptItem (way_of ways Owners)) items
    → AllStay ways items
all_stay ways [] all = tt
all_stay ways (i ∷ items) (kept, all) = (stays ways i kept, all_stay ways items all)

module _ (ways : Ways) where
  kept_value : (d : Class) (o : Option Class) (n : ℕ) → way_of ways d ≡ Number
      → ((e : Class) → o ≡ Some e → way_of ways e ≡ Keep) → value_where d o n ≡ []
  kept_value d None n numbered keeps = refl
  kept_value d (Some e) n numbered keeps =
      none_of_other d e n (λ same. absurd (cc (numbered, keeps e refl, ap (way_of ways) same)))

  pub kept_values : (d : Class) (spot : ItemSpot) (items : List Item) → way_of ways d ≡ Number
      → AllStay ways items → values_in d spot items ≡ []
  kept_values d spot [] numbered all = refl
  kept_values d spot (i ∷ items) numbered (kept, all) =
      ap₂ (λ (l m : List ℕ). l ++ m)
      (kept_value d (class_of spot i) (class_value i) numbered (kept.keeps spot))
      (kept_values d (next_spot spot i) items numbered all)

  kept_item : (seen : Class → List ℕ) (o : Option Class) (i : Item)
      → ((e : Class) → o ≡ Some e → way_of ways e ≡ Keep)
      → with_value i (substitute ways seen o (class_value i)) ≡ i
  kept_item seen None i keeps = refl
  kept_item seen (Some e) i keeps = rw (keeps e refl) refl

  pub kept_put : (seen : Class → List ℕ) (spot : ItemSpot) (items : List Item)
      → AllStay ways items → map (with_text ways) (masked_items ways seen spot items) ≡ items
  kept_put seen spot [] all = refl
  kept_put seen spot (i ∷ items) (kept, all) =
      ap₂ (λ (j : Item) (l : List Item). j ∷ l)
      (ap (with_text ways) (kept_item seen (class_of spot i) i (kept.keeps spot)) ∙ kept.same_text)
      (kept_put seen (next_spot spot i) items all)

  pub kept_handles : (items : List Item) → AllStay ways items → handles_in items ≡ []
  kept_handles [] all = refl
  kept_handles (i ∷ items) (kept, all) =
      ap₂ (λ (l m : List (List ℕ)). l ++ m) kept.no_handle (kept_handles items all)

  pub kept_spot : (spot : ItemSpot) (items : List Item) → AllStay ways items
      → spot_after spot items ≡ spot
  kept_spot spot [] all = refl
  kept_spot spot (i ∷ items) (kept, all) =
      kept_spot (next_spot spot i) items all ∙ kept.moves_not spot

pub kept_run : (owners : Way) (all : List PlainField) (bytes : List ℕ)
    → list_all (is_kept_field owners) all ≡ true
    → AllByRecursion (IsKeptItem owners) (run_items all bytes)
kept_run owners [] bytes t = tt
kept_run owners (fields.Word name ∷ more) bytes t =
    let parts = and_parts (is_kept_name owners name.now) (list_all (is_kept_field owners) more) t in
    (parts.0, kept_run owners more (drop 4 bytes) parts.1)
kept_run owners (fields.Hyper name ∷ more) bytes t = absurd cc

pub free_name_is_kept : (owners : Way) (name : List ℕ) → is_free_name name ≡ true
    → is_kept_name owners name ≡ true
unfolding called
free_name_is_kept owners name t = rw (none_of name t owner_names (refl, (refl, (refl, tt)))) t

-- ---- attributes

pub run_named : (all : List PlainField) (at : ℕ) (bytes : List ℕ)
    → run_items all (drop at bytes) ≡ numbered_from at bytes (map field_item all)
run_named [] at bytes = refl
run_named (fields.Word name ∷ more) at bytes =
    ap (λ (l : List Item). Word name.now (body_word at bytes) ∷ l)
    (ap (run_items more) (drop-drop 4 at bytes) ∙ run_named more (at + 4) bytes)
run_named (fields.Hyper name ∷ more) at bytes =
    ap (λ (l : List Item). Hyper name.now (big_number 8 (drop at bytes)) ∷ l)
    (ap (run_items more) (drop-drop 8 at bytes) ∙ run_named more (at + 8) bytes)

-- how many bytes such items have
size_of : List Item → ℕ
size_of [] = 0
size_of (Hyper name n ∷ more) = 8 + size_of more
size_of (_ ∷ more) = 4 + size_of more

size_named : (all : List PlainField) → run_size all ≡ size_of (map field_item all)
unfolding size_of
size_named [] = refl
size_named (fields.Word name ∷ more) = ap (λ n. 4 + n) (size_named more)
size_named (fields.Hyper name ∷ more) = ap (λ n. 8 + n) (size_named more)

pub attributes_size : (all : List PlainField) → map field_item all ≡ attribute_fields
    → run_size all ≡ 80
unfolding size_of
attributes_size all are = size_named all ∙ ap size_of are

pub attributes_named : (all : List PlainField) (bytes : List ℕ)
    → map field_item all ≡ attribute_fields
    → run_items all bytes ≡ attributes_in bytes
attributes_named all bytes are = run_named all 0 bytes ∙ ap (numbered_from 0 bytes) are

-- at a known spot: the class of a word, and the spot after it
pub known_word : (at spot : ItemSpot) (own : Option Class) (name : List ℕ) (n : ℕ) → at ≡ spot
    → IsKnown spot own name → (own ≡ class_of at (Word name n)) × (at ≡ next_spot at (Word name n))
known_word at spot own name n same known = rw same (sym known.0, sym (known.1 n))

pub known_hyper : (at spot : ItemSpot) (own : Option Class) (name : List ℕ) (n : ℕ) → at ≡ spot
    → class_of_hyper spot name ≡ own
    → (own ≡ class_of at (Hyper name n)) × (at ≡ next_spot at (Hyper name n))
known_hyper at spot own name n same known =
    rw same (sym known, sym (still_after spot (Hyper name n) tt))

pub known : (spot : ItemSpot) (own : Option Class) (name : List ℕ) → class_of_word spot name ≡ own
    → bytes_eq name (called "before") ≡ false → bytes_eq name (called "type") ≡ false
    → IsKnown spot own name
known spot own name is f g = (is, λ n. still_name spot name n f g)
