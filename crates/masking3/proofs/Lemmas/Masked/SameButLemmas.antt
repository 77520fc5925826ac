-- Two masked captures are the same exactly if the captures are the same but for the values that are
-- masked.
use Rattle.masking3.proofs.Common.{and_parts, ◌⊎◌, ◌+◌, append-nil, arith, big_bytes, big_number, big_number-reads_back, rank-le-length, zero_stays, ◌≡◌, inl, inr, ⊎_elim, ℕ, ◌<◌, ◌^◌, true, false, List, [], ◌∷◌, length, map, refl, sym, ap, ◌∙◌, subst, ⊤, ◌==◌, ◌&&◌, not, nat_eq, Option, None, Some, AllByRecursion, Decides-eqb, Item, Word, Hyper, Fixed, Entry, Begin, Call, Turn, Reply, Close, End, rank, Class, ItemSpot, InCall, InReply, Way, Keep, Zero, Number, Ways, class_of, class_value, position, by_way, is_zero_that_stays, masked_values, masked_entry, masked_item, masked_items, number_among, substitute, value_in, value_where, values, values_in, with_value, next_spot, way_of, KeepsAll, AreAlike, words, hypers, eights, IsNumbered, ArePartners, ChangesBy, ChangesOf, ChangesItem, ChangesItems, over, along, ChangesEntry, begin, call, turn, reply, close, end, SameButValues, Member, here, there, Pairs, OneToOne, none, more, Same, Agree, agree-graph, graph, member-graph, by_test, member-append_cases, rank_paired, same_rank, IsPlain, RenamesItem, handle, plain, Pairwise, RenamesMessage, message, Renames, ended, begins, calls, turns, replies, closes, ends}
use Rattle.canon3.specs.Renaming.{verifier}
use Rattle.canon3.proofs.Lemmas.Canonical.OneFormLemmas.{In}
use Rattle.canon3.proofs.Lemmas.Numbers.RankLemmas.{pairwise-append}
use Rattle.canon3.proofs.Lemmas.Renaming.OneToOneLemmas.{agree-from, agree-linked, agree-turned, kept, linked, member-kept, member-linked, member-turned, one_to_one-kept, turned}
use Rattle.masking3.proofs.Lemmas.Classes.ClassLemmas.{same_class, seen_alike}
use Rattle.masking3.proofs.Lemmas.Classes.SpotLemmas.{IsFree, still, still_after}
use Rattle.masking3.proofs.Lemmas.Masked.MaskedLemmas.{AreAmong, IsAmong, ItemsAreAmong, among_own, unmasked, value_given}

-- ---- items that are equal but for their values

alike_class : (spot : ItemSpot) {i j : Item} → AreAlike i j → class_of spot j ≡ class_of spot i
alike_class spot words = refl
alike_class spot _ = refl

pub alike_met : {i j k : Item} → AreAlike i j → AreAlike k j → AreAlike i k
alike_met words words = words
alike_met hypers hypers = hypers
alike_met eights eights = eights

alike_with : (i j : Item) (m : ℕ) → AreAlike i j → with_value i (Some m) ≡ with_value j (Some m)
alike_with i j m words = refl
alike_with i j m _ = refl

pub alike_put : (spot : ItemSpot) (i : Item) (d : Class) (m : ℕ) → class_of spot i ≡ Some d
    → AreAlike i (with_value i (Some m))
alike_put spot (Word name n) d m is = words
alike_put spot (Hyper name n) d m is = hypers
alike_put spot (Fixed name bytes) d m is = eights
alike_put spot _ d m is = absurd cc

alike_plain : {i j : Item} → AreAlike i j → IsPlain i
alike_plain words = tt
alike_plain _ = tt

-- ---- an item with another value

value_put : (spot : ItemSpot) (i : Item) (m : ℕ) (d : Class) → m < 2 ^ 64 → class_of spot i ≡ Some d
    → class_value (with_value i (Some m)) ≡ m
value_put spot (Word name n) m d small is = refl
value_put spot (Hyper name n) m d small is = refl
value_put spot (Fixed name bytes) m d small is =
    ap (big_number 8) (sym (append-nil (big_bytes 8 m))) ∙ big_number-reads_back 8 m [] small
value_put spot _ m d small is = absurd cc

plain_with : (i : Item) (o : Option ℕ) → IsPlain i → IsPlain (with_value i o)
plain_with i None f = f
plain_with (Word name n) (Some m) f = tt
plain_with i (Some m) f = f

-- ---- zeros

no_zero : (d : Class) (m : ℕ) → is_zero_that_stays d (1 + m) ≡ false
no_zero d m = by_test (zero_stays d) (λ t. rw t (by_test (1 + m == 0)
    (λ z. absurd (omega (arith, (Decides-eqb (1 + m) 0).0 z))) (λ f. f)))
    (λ f. rw f refl)

-- ---- what any change leaves

module _ (ways : Ways) (pairs : Class → Pairs ℕ) where
  by_way_is : (w : Way) (d : Class) (i j : Item) → ChangesBy w d (pairs d) i j
      → (i ≡ j) ⊎ AreAlike i j
  by_way_is Keep d i j h = inl h
  by_way_is Zero d i j h = inr h
  by_way_is Number d i j h = inr h.0

  pub changed_is : (o : Option Class) (i j : Item) → ChangesOf ways pairs o i j
      → (i ≡ j) ⊎ AreAlike i j
  changed_is None i j h = inl h
  changed_is (Some d) i j h = by_way_is (way_of ways d) d i j h

  changed_class : (spot : ItemSpot) (i j : Item) → ChangesItem ways pairs spot i j
      → class_of spot j ≡ class_of spot i
  changed_class spot i j h =
      ⊎_elim (λ e. ap (class_of spot) (sym e)) (alike_class spot)
      (changed_is (class_of spot i) i j h)

  -- what follows is at the same spot
  spot_of_changed : (spot : ItemSpot) (o : Option Class) (i j : Item) → class_of spot i ≡ o
      → class_of spot j ≡ o → ChangesOf ways pairs o i j → next_spot spot i ≡ next_spot spot j
  spot_of_changed spot None i j is so h = ap (next_spot spot) h
  spot_of_changed spot (Some d) i j is so h = still spot i d is ∙ sym (still spot j d so)

  changed_spot : (spot : ItemSpot) (i j : Item) → ChangesItem ways pairs spot i j
      → next_spot spot i ≡ next_spot spot j
  changed_spot spot i j h =
      spot_of_changed spot (class_of spot i) i j refl (changed_class spot i j h) h

  -- what is of no class was the same before
  same_before : (spot : ItemSpot) (i j : Item) → class_of spot j ≡ None
      → ChangesItem ways pairs spot i j → i ≡ j
  same_before spot i j is h =
      rw (sym (changed_class spot i j h) ∙ is) at h

-- ---- a message begins with a word of no class, after which the spot is the same

abbrev pub StartsFree : List Item → Type 0
StartsFree (Word name n ∷ items) = IsFree name
StartsFree _ = ⊥

abbrev pub HasFreeXid : Entry → Type 0
HasFreeXid (Call items) = StartsFree items
HasFreeXid (Reply id items) = StartsFree items
HasFreeXid _ = ⊤

module _ (ways : Ways) (pairs : Class → Pairs ℕ) where
  starts_free : (spot : ItemSpot) {m n : List Item} → StartsFree m
      → ChangesItems ways pairs spot m n
      → StartsFree n
  starts_free spot {m = Word name x ∷ items} free (along {b = js} c p) =
      subst (λ k. StartsFree (k ∷ js)) (rw (free.classless spot) at c) free
  starts_free spot free p = absurd free

  free_too : {a b : List Entry} → AllByRecursion HasFreeXid a
      → Pairwise (ChangesEntry ways pairs) a b → AllByRecursion HasFreeXid b
  free_too h none = tt
  free_too h (more (call c) p) = (starts_free InCall h.0 c, free_too h.1 p)
  free_too h (more (reply c) p) = (starts_free InReply h.0 c, free_too h.1 p)
  free_too h (more c p) = (tt, free_too h.1 p)

-- ---- changes of changes

abbrev pub Changes : Ways → (Class → Pairs ℕ) → List Entry → List Entry → Type 0
Changes ways pairs a b = Pairwise (ChangesEntry ways pairs) a b

abbrev pub AreAgreeing : (Class → Pairs ℕ) → Type 0
AreAgreeing pairs = (d : Class) → Agree nat_eq (IsNumbered d) (pairs d)

-- from what is so of each item of a class whose value was seen
module _ (ways others : Ways) (ps qs : Class → Pairs ℕ) (seen : Class → List ℕ)
    (items : (spot : ItemSpot) (d : Class) (i j : Item) → IsAmong seen spot i
    → class_of spot i ≡ Some d
    → ChangesBy (way_of ways d) d (ps d) i j → ChangesBy (way_of others d) d (qs d) i j) where
  of_others : (spot : ItemSpot) (o : Option Class) (i j : Item) → IsAmong seen spot i
      → class_of spot i ≡ o → ChangesOf ways ps o i j → ChangesOf others qs o i j
  of_others spot None i j among is h = h
  of_others spot (Some d) i j among is h = items spot d i j among is h

  message_others : (spot : ItemSpot) {m n : List Item} → ItemsAreAmong seen spot m
      → ChangesItems ways ps spot m n → ChangesItems others qs spot m n
  message_others spot among over = over
  message_others spot among (along {i = i} {j = j} c p) =
      along (of_others spot (class_of spot i) i j among.0 refl c)
      (message_others (next_spot spot i) among.1 p)

  changes_others : {a b : List Entry} → AreAmong seen a → Changes ways ps a b
      → Changes others qs a b
  changes_others among none = none
  changes_others among (more begin p) = more begin (changes_others among.1 p)
  changes_others among (more (call c) p) =
      more (call (message_others InCall among.0 c)) (changes_others among.1 p)
  changes_others among (more turn p) = more turn (changes_others among.1 p)
  changes_others among (more (reply c) p) =
      more (reply (message_others InReply among.0 c)) (changes_others among.1 p)
  changes_others among (more close p) = more close (changes_others among.1 p)
  changes_others among (more end p) = more end (changes_others among.1 p)

-- ---- a change, then a renaming, then a change back: as well one change, and then a renaming

-- what follows a renamed item is at the same spot
module _ {us vs : Pairs (List ℕ)} where
  renamed_spot : (spot : ItemSpot) (i j : Item) → RenamesItem us vs i j
      → next_spot spot i ≡ next_spot spot j
  renamed_spot spot i j (handle m) = still_after spot i tt ∙ sym (still_after spot j tt)
  renamed_spot spot i j (verifier m) = still_after spot i tt ∙ sym (still_after spot j tt)
  renamed_spot spot i j (plain item f) = refl

module _ (ways : Ways) (ps qs : Class → Pairs ℕ) (first : AreAgreeing ps)
    (second : AreAgreeing qs) where
  -- values that have the same partner
  abbrev met : Class → Pairs ℕ
  met d = linked nat_eq (ps d) (turned (qs d))

  partners_met : (d : Class) (l m n : ℕ) → ArePartners d (ps d) l m → ArePartners d (qs d) n m
      → ArePartners d (met d) l n
  partners_met d l m n (inl x) (inl y) = inl (member-linked nat_eq Decides-eqb x (member-turned y))
  partners_met d l m n (inl x) (inr y) = absurd (cc (((first d).parts (l, m) x).1, y.1))
  partners_met d l m n (inr x) (inl y) = absurd (cc (((second d).parts (n, m) y).1, x.1))
  partners_met d l m n (inr x) (inr y) = inr (x.0, y.0)

  by_way_met : (w : Way) (d : Class) (i j k : Item) → ChangesBy w d (ps d) i j
      → ChangesBy w d (qs d) k j → ChangesBy w d (met d) i k
  by_way_met Keep d i j k g h = g ∙ sym h
  by_way_met Zero d i j k g h = alike_met g h
  by_way_met Number d i j k g h = (
    alike_met g.0 h.0,
    partners_met d (class_value i) (class_value j) (class_value k) g.1 h.1,
  )

  of_met : (o : Option Class) (i j k : Item) → ChangesOf ways ps o i j → ChangesOf ways qs o k j
      → ChangesOf ways met o i k
  of_met None i j k g h = g ∙ sym h
  of_met (Some d) i j k g h = by_way_met (way_of ways d) d i j k g h

  stays_met : (spot : ItemSpot) (i j : Item) → class_of spot j ≡ None → ChangesItem ways ps spot i j
      → ChangesItem ways met spot i j
  stays_met spot i j is h =
      let e = same_before ways ps spot i j is h in
      subst (λ o. ChangesOf ways met o i j) (sym (ap (class_of spot) e ∙ is)) e

  module _ {us vs : Pairs (List ℕ)} where
    item_met : (spot : ItemSpot) (i j k l : Item) → ChangesItem ways ps spot i j
        → RenamesItem us vs j l → ChangesItem ways qs spot k l
        → (m : Item) × ChangesItem ways met spot i m × RenamesItem us vs m k
    item_met spot i j k l g (plain item f) h = (
      k,
      of_met (class_of spot i) i item k g (subst (λ o. ChangesOf ways qs o k item)
          (sym (changed_class ways qs spot k item h) ∙ changed_class ways ps spot i item g) h),
      plain k (⊎_elim (λ e. subst IsPlain (sym e) f) alike_plain
          (changed_is ways qs (class_of spot k) k item h)),
    )
    item_met spot i j k l g (handle m) h =
        (j, stays_met spot i j refl g, rw (same_before ways qs spot k l refl h) (handle m))
    item_met spot i j k l g (verifier m) h =
        (j, stays_met spot i j refl g, rw (same_before ways qs spot k l refl h) (verifier m))

    items_met : (spot : ItemSpot) {a b c d : List Item} → ChangesItems ways ps spot a b
        → Pairwise (RenamesItem us vs) b d → ChangesItems ways qs spot c d
        → (m : List Item) × ChangesItems ways met spot a m × Pairwise (RenamesItem us vs) m c
    items_met spot over none over = ([], over, none)
    items_met spot (along {i = i} {j = j} g p) (more r q)
        (along {i = k} {j = l} h s) =
        let spots : next_spot spot k ≡ next_spot spot i =
        changed_spot ways qs spot k l h
        ∙ sym (changed_spot ways ps spot i j g ∙ renamed_spot spot j l r) in
        let one = item_met spot i j k l g r h in
        let all = items_met (next_spot spot i) p q (rw spots at s) in
        (one.0 ∷ all.0, along one.1 all.1, more one.2 all.2)

    message_met : (spot : ItemSpot) {xs : Pairs ℕ} {a b c d : List Item} → StartsFree b
        → RenamesMessage us vs xs b d → ChangesItems ways ps spot a b
        → ChangesItems ways qs spot c d
        → (m : List Item) × ChangesItems ways met spot a m × RenamesMessage us vs xs m c
    message_met spot {xs = xs} free (message {name = name} {x = x} {y = y} b q) (along {i = i} g p)
        (along {i = k} {a = c} h s) =
        let e = same_before ways ps spot i (Word name x) (free.classless spot) g in
        let f = same_before ways qs spot k (Word name y) (free.classless spot) h in
        let spots : next_spot spot k ≡ next_spot spot i =
        cc (
          ap (next_spot spot) e,
          ap (next_spot spot) f,
          free.moves_not spot x,
          free.moves_not spot y,
        ) in
        let all = items_met (next_spot spot i) p q (rw spots at s) in (
          Word name x ∷ all.0,
          along (stays_met spot i (Word name x) (free.classless spot) g) all.1,
          subst (λ j. RenamesMessage us vs xs (Word name x ∷ all.0) (j ∷ c)) (sym f)
              (message b all.2),
        )

    entries_met : {xs : Pairs ℕ} {xss : List (Pairs ℕ)} {a b c d : List Entry}
        → AllByRecursion HasFreeXid b → Changes ways ps a b → Renames us vs xs xss b d
        → Changes ways qs c d
        → (m : List Entry) × Changes ways met a m × Renames us vs xs xss m c
    entries_met free none ended none = ([], none, ended)
    entries_met free (more begin p) (begins r) (more begin q) =
        let all = entries_met free.1 p r q in (Begin ∷ all.0, more begin all.1, begins all.2)
    entries_met free (more (call g) p) (calls m r) (more (call h) q) =
        let one = message_met InCall free.0 m g h in
        let all = entries_met free.1 p r q in
        (Call one.0 ∷ all.0, more (call one.1) all.1, calls one.2 all.2)
    entries_met free (more turn p) (turns r) (more turn q) =
        let all = entries_met free.1 p r q in (Turn ∷ all.0, more turn all.1, turns all.2)
    entries_met free (more (reply {id = id} g) p) (replies m r) (more (reply h) q) =
        let one = message_met InReply free.0 m g h in
        let all = entries_met free.1 p r q in
        (Reply id one.0 ∷ all.0, more (reply one.1) all.1, replies one.2 all.2)
    entries_met free (more close p) (closes r) (more close q) =
        let all = entries_met free.1 p r q in (Close ∷ all.0, more close all.1, closes all.2)
    entries_met free (more end p) (ends r) (more end q) =
        let all = entries_met free.1 p r q in (End ∷ all.0, more end all.1, ends all.2)

-- ---- the masked form is a change

one_member : {x n : ℕ} → Member x (n ∷ []) → x ≡ n
one_member here = refl
one_member (there m) = elim m [ ]

value_numbered : (d : Class) (o : Option Class) (n x : ℕ) → Member x (value_where d o n)
    → IsNumbered d x
value_numbered d None n x m = elim m [ ]
value_numbered d (Some e) n x m =
    by_test ((position d == position e) && not (is_zero_that_stays d n))
    (λ t. let is : x ≡ n = one_member (rw t at m) in
    rw is (by_test (is_zero_that_stays d n)
    (λ z. absurd (cc (rw z at (and_parts (position d == position e) _ t).1))) (λ z. z)))
    (λ f. let no : Member x [] = rw f at m in elim no [ ])

in_message_numbered : (d : Class) (spot : ItemSpot) (items : List Item) (x : ℕ)
    → Member x (values_in d spot items) → IsNumbered d x
in_message_numbered d spot [] x m = elim m [ ]
in_message_numbered d spot (i ∷ items) x m =
    ⊎_elim (value_numbered d (class_of spot i) (class_value i) x)
    (in_message_numbered d (next_spot spot i) items x)
    (member-append_cases (value_in d spot i) m)

pub values_numbered : (d : Class) (entries : List Entry) (x : ℕ) → Member x (values entries d)
    → IsNumbered d x
values_numbered d [] x m = elim m [ ]
values_numbered d (Call items ∷ l) x m =
    ⊎_elim (in_message_numbered d InCall items x) (values_numbered d l x)
    (member-append_cases (values_in d InCall items) m)
values_numbered d (Reply id items ∷ l) x m =
    ⊎_elim (in_message_numbered d InReply items x) (values_numbered d l x)
    (member-append_cases (values_in d InReply items) m)
values_numbered d (e ∷ l) x m = values_numbered d l x m

module _ (seen : Class → List ℕ) where
  abbrev number_of : Class → ℕ → ℕ
  number_of d n = rank nat_eq n (seen d)

  abbrev pub number_pairs : Class → Pairs ℕ
  number_pairs d = graph (number_of d) (seen d)

pub numbers_agree : (all : List Entry) (d : Class)
    → Agree nat_eq (IsNumbered d) (number_pairs (values all) d)
numbers_agree all d =
    agree-graph nat_eq Decides-eqb (number_of (values all) d) (values all d)
    (λ x m. (values_numbered d all x m, no_zero d _))
    (λ x y m n e. same_rank nat_eq Decides-eqb m n e)

module _ (ways : Ways) (seen : Class → List ℕ)
    (room : (c : Class) → way_of ways c ≡ Number → length (seen c) < 2 ^ 64) where
  partner : (spot : ItemSpot) (d : Class) (i : Item) → IsAmong seen spot i
      → class_of spot i ≡ Some d
      → ArePartners d (number_pairs seen d) (class_value i)
      (number_among (seen d) d (class_value i))
  partner spot d i among is = by_test (is_zero_that_stays d (class_value i))
      (λ t. inr (t, rw t (rw (and_parts (zero_stays d) _ t).0 refl)))
      (λ f. inl (rw f (member-graph (number_of seen d) (among d is f))))

  small : (spot : ItemSpot) (d : Class) (i : Item) → IsAmong seen spot i → class_of spot i ≡ Some d
      → length (seen d) < 2 ^ 64 → number_among (seen d) d (class_value i) < 2 ^ 64
  small spot d i among is few = by_test (is_zero_that_stays d (class_value i))
      (λ t. rw t (omega arith))
      (λ f. let low = rank-le-length nat_eq Decides-eqb (among d is f) in
      rw f (omega (arith, few, low)))

  by_way_masked : (spot : ItemSpot) (i : Item) → IsAmong seen spot i → (d : Class)
      → class_of spot i ≡ Some d → (w : Way) → way_of ways d ≡ w
      → ChangesBy w d (number_pairs seen d) i (masked_item ways seen spot i)
  by_way_masked spot i among d is Keep way = rw (is, way) refl
  by_way_masked spot i among d is Zero way = rw (is, way) (alike_put spot i d 0 is)
  by_way_masked spot i among d is Number way =
      rw (is, way) (
        alike_put spot i d _ is,
        rw (value_put spot i _ d (small spot d i among is (room d way)) is)
            (partner spot d i among is),
      )

  of_masked : (spot : ItemSpot) (i : Item) → IsAmong seen spot i → (o : Option Class)
      → class_of spot i ≡ o → ChangesOf ways (number_pairs seen) o i (masked_item ways seen spot i)
  of_masked spot i among None is = sym (unmasked ways seen spot i is)
  of_masked spot i among (Some d) is = by_way_masked spot i among d is (way_of ways d) refl

  message_masked : (spot : ItemSpot) (items : List Item) → ItemsAreAmong seen spot items
      → ChangesItems ways (number_pairs seen) spot items (masked_items ways seen spot items)
  message_masked spot [] among = over
  message_masked spot (i ∷ items) among =
      along (of_masked spot i among.0 (class_of spot i) refl)
      (message_masked (next_spot spot i) items among.1)

  entries_masked : (entries : List Entry) → AreAmong seen entries
      → Changes ways (number_pairs seen) entries (map (masked_entry ways seen) entries)
  entries_masked [] among = none
  entries_masked (Begin ∷ l) among = more begin (entries_masked l among.1)
  entries_masked (Call m ∷ l) among =
      more (call (message_masked InCall m among.0)) (entries_masked l among.1)
  entries_masked (Turn ∷ l) among = more turn (entries_masked l among.1)
  entries_masked (Reply id m ∷ l) among =
      more (reply (message_masked InReply m among.0)) (entries_masked l among.1)
  entries_masked (Close ∷ l) among = more close (entries_masked l among.1)
  entries_masked (End ∷ l) among = more end (entries_masked l among.1)

pub own_masked : (ways : Ways) (a : List Entry)
    → ((c : Class) → way_of ways c ≡ Number → length (values a c) < 2 ^ 64)
    → Changes ways (number_pairs (values a)) a (masked_values ways a)
own_masked ways a room = entries_masked ways (values a) room a (among_own a)

-- ---- a change leaves the masked form

none_given : (d : Class) (n : ℕ) → is_zero_that_stays d n ≡ true → value_where d (Some d) n ≡ []
none_given d n t = rw (t, (Decides-eqb (position d) (position d)).1 refl) refl

module _ (ways : Ways) (pairs : Class → Pairs ℕ) (agree : AreAgreeing pairs) where
  partners_beside : (d : Class) (m n : ℕ) → ArePartners d (pairs d) m n
      → Pairwise (In (pairs d)) (value_where d (Some d) m) (value_where d (Some d) n)
  partners_beside d m n (inl b) =
      let parts = (agree d).parts (m, n) b in
      rw (value_given d m parts.0, value_given d n parts.1) (more b none)
  partners_beside d m n (inr z) = rw (none_given d m z.0, none_given d n z.1) none

  of_beside : (d : Class) → way_of ways d ≡ Number → (o : Option Class) (i j : Item)
      → ChangesOf ways pairs o i j
      → Pairwise (In (pairs d)) (value_where d o (class_value i)) (value_where d o (class_value j))
  of_beside d way None i j h = none
  of_beside d way (Some e) i j h = by_test (position d == position e)
      (λ t. let same = sym (same_class d e ((Decides-eqb (position d) (position e)).0 t)) in
      let by = rw (same, way) at h in
      rw same (partners_beside d (class_value i) (class_value j) by.1))
      (λ f. rw f none)

  item_beside : (d : Class) → way_of ways d ≡ Number → (spot : ItemSpot) (i j : Item)
      → ChangesItem ways pairs spot i j
      → Pairwise (In (pairs d)) (value_in d spot i) (value_in d spot j)
  item_beside d way spot i j h =
      rw (changed_class ways pairs spot i j h) (of_beside d way (class_of spot i) i j h)

  items_beside : (d : Class) → way_of ways d ≡ Number → (spot : ItemSpot) {m n : List Item}
      → ChangesItems ways pairs spot m n
      → Pairwise (In (pairs d)) (values_in d spot m) (values_in d spot n)
  items_beside d way spot over = none
  items_beside d way spot (along {i = i} {j = j} c p) =
      pairwise-append (item_beside d way spot i j c)
      (rw (← changed_spot ways pairs spot i j c) (items_beside d way (next_spot spot i) p))

  values_beside : (d : Class) → way_of ways d ≡ Number → {a b : List Entry} → Changes ways pairs a b
      → Pairwise (In (pairs d)) (values a d) (values b d)
  values_beside d way none = none
  values_beside d way (more (call c) p) =
      pairwise-append (items_beside d way InCall c) (values_beside d way p)
  values_beside d way (more (reply c) p) =
      pairwise-append (items_beside d way InReply c) (values_beside d way p)
  values_beside d way (more c p) = values_beside d way p

  module _ (first second : Class → List ℕ) (beside : (d : Class) → way_of ways d ≡ Number
      → Pairwise (In (pairs d)) (first d) (second d)) where
    one_number : (d : Class) → way_of ways d ≡ Number → (m n : ℕ) → ArePartners d (pairs d) m n
        → number_among (first d) d m ≡ number_among (second d) d n
    one_number d way m n (inl b) =
        let parts = (agree d).parts (m, n) b in
        rw (parts.0, parts.1) (rank_paired nat_eq nat_eq (In (pairs d))
        (λ x y u v p q. (agree d).alike (x, u) (y, v) p q) b (beside d way))
    one_number d way m n (inr z) = rw (z.0, z.1) refl

    by_way_one : (d : Class) (w : Way) → way_of ways d ≡ w → (i j : Item)
        → ChangesBy w d (pairs d) i j
        → with_value i (by_way w (first d) d (class_value i))
        ≡ with_value j (by_way w (second d) d (class_value j))
    by_way_one d Keep way i j h = h
    by_way_one d Zero way i j h = alike_with i j 0 h
    by_way_one d Number way i j h =
        alike_with i j (number_among (first d) d (class_value i)) h.0
        ∙ ap (λ n. with_value j (Some n)) (one_number d way (class_value i) (class_value j) h.1)

    of_one : (o : Option Class) (i j : Item) → ChangesOf ways pairs o i j
        → with_value i (substitute ways first o (class_value i))
        ≡ with_value j (substitute ways second o (class_value j))
    of_one None i j h = h
    of_one (Some d) i j h = by_way_one d (way_of ways d) refl i j h

    item_one : (spot : ItemSpot) (i j : Item) → ChangesItem ways pairs spot i j
        → masked_item ways first spot i ≡ masked_item ways second spot j
    item_one spot i j h = rw (changed_class ways pairs spot i j h) (of_one (class_of spot i) i j h)

    message_one : (spot : ItemSpot) {m n : List Item} → ChangesItems ways pairs spot m n
        → masked_items ways first spot m ≡ masked_items ways second spot n
    message_one spot over = refl
    message_one spot (along {i = i} {j = j} c p) =
        rw (← changed_spot ways pairs spot i j c)
        (cc (item_one spot i j c, message_one (next_spot spot i) p))

    entries_one : {a b : List Entry} → Changes ways pairs a b
        → map (masked_entry ways first) a ≡ map (masked_entry ways second) b
    entries_one none = refl
    entries_one (more (call c) p) = cc (message_one InCall c, entries_one p)
    entries_one (more (reply c) p) = cc (message_one InReply c, entries_one p)
    entries_one (more c p) = cc (entries_one p)

  pub masked_alike : {a b : List Entry} → Changes ways pairs a b
      → masked_values ways a ≡ masked_values ways b
  masked_alike {a = a} {b = b} p =
      entries_one (values a) (values b) (λ d way. values_beside d way p) p

-- ---- what Same renames is masked alike

module _ (ways : Ways) {ps vs : Pairs (List ℕ)} where
  item_values : (d : Class) (spot : ItemSpot) (i j : Item) → RenamesItem ps vs i j
      → value_in d spot i ≡ value_in d spot j
  item_values d spot i j (handle m) = refl
  item_values d spot i j r = refl

  items_values : (d : Class) (spot : ItemSpot) {m n : List Item} → Pairwise (RenamesItem ps vs) m n
      → values_in d spot m ≡ values_in d spot n
  items_values d spot none = refl
  items_values d spot (more {x = i} {y = j} r p) =
      rw (← renamed_spot spot i j r)
      (cc (item_values d spot i j r, items_values d (next_spot spot i) p))

  message_values : (d : Class) (spot : ItemSpot) {xs : Pairs ℕ} {m n : List Item} → StartsFree m
      → RenamesMessage ps vs xs m n → values_in d spot m ≡ values_in d spot n
  message_values d spot free (message {x = x} {y = y} b p) =
      rw (free.classless spot, free.moves_not spot x, free.moves_not spot y) (items_values d spot p)

  entries_values : (d : Class) {xs : Pairs ℕ} {xss : List (Pairs ℕ)} {a b : List Entry}
      → AllByRecursion HasFreeXid a → Renames ps vs xs xss a b → values a d ≡ values b d
  entries_values d h ended = refl
  entries_values d h (begins r) = entries_values d h.1 r
  entries_values d h (calls c r) = cc (message_values d InCall h.0 c, entries_values d h.1 r)
  entries_values d h (turns r) = entries_values d h.1 r
  entries_values d h (replies c r) = cc (message_values d InReply h.0 c, entries_values d h.1 r)
  entries_values d h (closes r) = entries_values d h.1 r
  entries_values d h (ends r) = entries_values d h.1 r

  module _ (seen : Class → List ℕ) where
    item_renamed : (spot : ItemSpot) (i j : Item) → RenamesItem ps vs i j
        → RenamesItem ps vs (masked_item ways seen spot i) (masked_item ways seen spot j)
    item_renamed spot i j (handle m) = handle m
    item_renamed spot i j (verifier m) = verifier m
    item_renamed spot i j (plain item f) =
        plain (masked_item ways seen spot item)
        (plain_with item (substitute ways seen (class_of spot item) (class_value item)) f)

    items_renamed : (spot : ItemSpot) {m n : List Item} → Pairwise (RenamesItem ps vs) m n
        → Pairwise (RenamesItem ps vs) (masked_items ways seen spot m)
        (masked_items ways seen spot n)
    items_renamed spot none = none
    items_renamed spot (more {x = i} {y = j} r p) =
        more (item_renamed spot i j r)
        (rw (← renamed_spot spot i j r) (items_renamed (next_spot spot i) p))

    message_renamed : (spot : ItemSpot) {xs : Pairs ℕ} {m n : List Item} → StartsFree m
        → RenamesMessage ps vs xs m n
        → RenamesMessage ps vs xs (masked_items ways seen spot m) (masked_items ways seen spot n)
    message_renamed spot free (message {x = x} {y = y} b p) =
        rw (free.classless spot, free.moves_not spot x, free.moves_not spot y)
        (message b (items_renamed spot p))

    entries_renamed : {xs : Pairs ℕ} {xss : List (Pairs ℕ)} {a b : List Entry}
        → AllByRecursion HasFreeXid a → Renames ps vs xs xss a b
        → Renames ps vs xs xss (map (masked_entry ways seen) a) (map (masked_entry ways seen) b)
    entries_renamed h ended = ended
    entries_renamed h (begins r) = begins (entries_renamed h.1 r)
    entries_renamed h (calls m r) = calls (message_renamed InCall h.0 m) (entries_renamed h.1 r)
    entries_renamed h (turns r) = turns (entries_renamed h.1 r)
    entries_renamed h (replies m r) =
        replies (message_renamed InReply h.0 m) (entries_renamed h.1 r)
    entries_renamed h (closes r) = closes (entries_renamed h.1 r)
    entries_renamed h (ends r) = ends (entries_renamed h.1 r)

-- what is renamed in another pair of captures is so by the same renamings
pub same_by_renaming : {a b c d : List Entry} (s : Same a b)
    → Renames s.handle_pairs s.verifier_pairs [] s.xid_pairs c d → Same c d
same_by_renaming s r = record {
  handle_pairs = s.handle_pairs;
  verifier_pairs = s.verifier_pairs;
  xid_pairs = s.xid_pairs;
  handles_one_to_one = s.handles_one_to_one;
  verifiers_one_to_one = s.verifiers_one_to_one;
  xids_one_to_one = s.xids_one_to_one;
  renames = r;
}

pub same_masked : (ways : Ways) (a b : List Entry) → AllByRecursion HasFreeXid a → Same a b
    → Same (masked_values ways a) (masked_values ways b)
same_masked ways a b free s =
    subst (λ seen. Same (masked_values ways a) (map (masked_entry ways seen) b))
    (seen_alike (values a) (values b) (λ d. entries_values ways d free s.renames))
    (same_by_renaming s (entries_renamed ways (values a) free s.renames))

-- ---- both directions

pub agree_of : (pairs : Class → Pairs ℕ) → ((d : Class) → OneToOne (IsNumbered d) (pairs d))
    → AreAgreeing pairs
agree_of pairs one d = agree-from nat_eq Decides-eqb (one d)

pub same_from_same_but : (ways : Ways) (a b : List Entry) → AllByRecursion HasFreeXid a
    → SameButValues ways a b → Same (masked_values ways a) (masked_values ways b)
same_from_same_but ways a b free s =
    rw (masked_alike ways s.value_pairs (agree_of s.value_pairs s.values_one_to_one) s.changes)
    (same_masked ways s.changed b (free_too ways s.value_pairs free s.changes) s.same)

-- each pair one time
module _ (pairs : Class → Pairs ℕ) (agree : AreAgreeing pairs) where
  abbrev once : Class → Pairs ℕ
  once d = kept nat_eq (pairs d)

  by_way_once : (w : Way) (d : Class) (i j : Item) → ChangesBy w d (pairs d) i j
      → ChangesBy w d (once d) i j
  by_way_once Keep d i j h = h
  by_way_once Zero d i j h = h
  by_way_once Number d i j h = (
    h.0,
    ⊎_elim (λ m. inl (member-kept nat_eq Decides-eqb (pairs d) _ (agree d).alike m)) (λ z. inr z)
        h.1,
  )

  pub from_agreeing : (ways others : Ways) (ps : Class → Pairs ℕ) (a b changed : List Entry)
      → ((spot : ItemSpot) (d : Class) (i j : Item) → IsAmong (values a) spot i
      → class_of spot i ≡ Some d → ChangesBy (way_of ways d) d (ps d) i j
      → ChangesBy (way_of others d) d (pairs d) i j)
      → Changes ways ps a changed → Same changed b → SameButValues others a b
  from_agreeing ways others ps a b changed items changes same = record {
    value_pairs = once;
    values_one_to_one = λ d. one_to_one-kept nat_eq Decides-eqb (pairs d) (agree d);
    changed = changed;
    changes =
        changes_others ways others ps once (values a)
        (λ spot d i j among is h.
        by_way_once (way_of others d) d i j (items spot d i j among is h)) (among_own a) changes;
    same = same;
  }

pub same_but_from_same : (ways : Ways) (a b : List Entry)
    → ((c : Class) → length (values a c) < 2 ^ 64) → ((c : Class) → length (values b c) < 2 ^ 64)
    → AllByRecursion HasFreeXid a → Same (masked_values ways a) (masked_values ways b)
    → SameButValues ways a b
same_but_from_same ways a b room other_room free s =
    let ps = number_pairs (values a) in
    let qs = number_pairs (values b) in
    let forth = own_masked ways a (λ c n. room c) in
    let back = own_masked ways b (λ c n. other_room c) in
    let all =
    entries_met ways ps qs (numbers_agree a) (numbers_agree b) (free_too ways ps free forth) forth
    s.renames back in
    from_agreeing (met ways ps qs (numbers_agree a) (numbers_agree b))
    (λ d. agree-linked nat_eq Decides-eqb (numbers_agree a d)
    (agree-turned nat_eq Decides-eqb (numbers_agree b d))) ways ways _ a b all.0
    (λ spot d i j among is h. h) all.1 (same_by_renaming s all.2)

-- ---- where nothing is masked

module _ (ways : Ways) (keeps : KeepsAll ways) (pairs : Class → Pairs ℕ) where
  stays_equal : (o : Option Class) (i j : Item) → ChangesOf ways pairs o i j → i ≡ j
  stays_equal None i j h = h
  stays_equal (Some d) i j h = subst (λ w. ChangesBy w d (pairs d) i j) (keeps d) h

  message_stays : (spot : ItemSpot) {m n : List Item} → ChangesItems ways pairs spot m n → m ≡ n
  message_stays spot over = refl
  message_stays spot (along {i = i} {j = j} c p) =
      cc (stays_equal (class_of spot i) i j c, message_stays (next_spot spot i) p)

  entries_stay : {a b : List Entry} → Changes ways pairs a b → a ≡ b
  entries_stay none = refl
  entries_stay (more (call c) p) = cc (message_stays InCall c, entries_stay p)
  entries_stay (more (reply c) p) = cc (message_stays InReply c, entries_stay p)
  entries_stay (more c p) = cc (entries_stay p)

module _ (ways : Ways) (keeps : KeepsAll ways) where
  kept_changes : (a : List Entry) → Changes ways (number_pairs (values a)) a (masked_values ways a)
  kept_changes a = own_masked ways a (λ c n. absurd (cc (keeps c, n)))

  pub values_kept : (a : List Entry) → masked_values ways a ≡ a
  values_kept a = sym (entries_stay ways keeps (number_pairs (values a)) (kept_changes a))

  pub same_of_kept : (a b : List Entry) → SameButValues ways a b → Same a b
  same_of_kept a b s = rw (entries_stay ways keeps s.value_pairs s.changes) s.same

  pub kept_of_same : (a b : List Entry) → Same a b → SameButValues ways a b
  kept_of_same a b s =
      from_agreeing (number_pairs (values a)) (numbers_agree a) ways ways
      (number_pairs (values a)) a b a (λ spot d i j among is h. h)
      (subst (Changes ways (number_pairs (values a)) a) (values_kept a) (kept_changes a)) s
