-- Ways that mask more tell no more captures apart.
use Rattle.masking3.proofs.Common.{◌≡◌, inl, inr, ℕ, List, [], nat_eq, Some, Decides-eqb, Item, Entry, Pairs, Same, by_test, Class, ItemSpot, Way, Keep, Zero, Number, Ways, class_of, class_value, is_zero_that_stays, values, names_by, way_of, Agree, agree-graph, graph, member-graph, AreAlike, ChangesBy, IsNumbered, SameBut, SameButValues}
use Rattle.masking3.specs.Laws.{KeepsAll, MasksAsMuch, RevealsNoMore}
use Rattle.masking3.proofs.Lemmas.Masked.MaskedLemmas.{IsAmong}
use Rattle.masking3.proofs.Lemmas.Masked.SameButLemmas.{AreAgreeing, agree_of, alike_met, alike_put, from_agreeing, kept_of_same, same_of_kept, values_numbered}
use Rattle.masking3.proofs.Lemmas.Unnamed.UnnamedLemmas.{names_absorbed, names_kept}
use Rattle.masking3.proofs.Lemmas.Unnamed.UnnamedRenamings.{changes_named, same_named}

module _ (all : List Entry) (pairs : Class → Pairs ℕ) (agree : AreAgreeing pairs) where
  -- a value that stayed is its own partner
  abbrev pairs_by : Way → Class → Pairs ℕ
  pairs_by Keep d = graph (λ n. n) (values all d)
  pairs_by Number d = pairs d
  pairs_by Zero d = []

  agree_by : (w : Way) (d : Class) → Agree nat_eq (IsNumbered d) (pairs_by w d)
  agree_by Keep d =
      agree-graph nat_eq Decides-eqb (λ n. n) (values all d)
      (λ x m. (values_numbered d all x m, values_numbered d all x m)) (λ x y m n e. e)
  agree_by Number d = agree d
  agree_by Zero d = record { parts = λ p m. elim m [ ]; alike = λ p q m n. elim m [ ] }

  alike_itself : (spot : ItemSpot) (d : Class) (i : Item) → class_of spot i ≡ Some d → AreAlike i i
  alike_itself spot d i is =
      alike_met (alike_put spot i d 0 is) (alike_put spot i d 0 is)

  by_way_more : (w v : Way) → RevealsNoMore w v → (spot : ItemSpot) (d : Class) (i j : Item)
      → IsAmong (values all) spot i → class_of spot i ≡ Some d → ChangesBy w d (pairs d) i j
      → ChangesBy v d (pairs_by w d) i j
  by_way_more Keep Keep t spot d i j among is h = h
  by_way_more Keep Number t spot d i j among is h =
      rw (← h) (
        alike_itself spot d i is,
        by_test (is_zero_that_stays d (class_value i)) (λ z. inr (z, z))
            (λ f. inl (member-graph (λ n. n) (among d is f))),
      )
  by_way_more Keep Zero t spot d i j among is h = rw (← h) (alike_itself spot d i is)
  by_way_more Number Number t spot d i j among is h = h
  by_way_more Number Zero t spot d i j among is h = h.0
  by_way_more Zero Zero t spot d i j among is h = h
  by_way_more w v t spot d i j among is h = absurd t

pub values_more : (ways others : Ways) (a b : List Entry) → MasksAsMuch ways others
    → SameButValues ways a b → SameButValues others a b
values_more ways others a b much s =
    let agree = agree_of s.value_pairs s.values_one_to_one in
    from_agreeing (λ d. pairs_by a s.value_pairs agree (way_of ways d) d)
    (λ d. agree_by a s.value_pairs agree (way_of ways d) d) ways others s.value_pairs a b s.changed
    (λ spot d. by_way_more a s.value_pairs agree (way_of ways d) (way_of others d) (much d) spot d)
    s.changes s.same

-- ---- and names

-- with masked names
values_with_names : (ways by : Ways) (a b : List Entry) → SameButValues ways a b
    → SameButValues ways (names_by by a) (names_by by b)
values_with_names ways by a b s = record {
  value_pairs = s.value_pairs;
  values_one_to_one = s.values_one_to_one;
  changed = names_by by s.changed;
  changes = changes_named ways s.value_pairs by s.changes;
  same = same_named by s.same;
}

pub same_but_more : (ways others : Ways) (a b : List Entry) → MasksAsMuch ways others
    → SameBut ways a b → SameBut others a b
same_but_more ways others a b much s =
    let absorbed = names_absorbed ways others much in
    values_more ways others (names_by others a) (names_by others b) much
    (rw (absorbed a, absorbed b) at (values_with_names ways others (names_by ways a)
    (names_by ways b) s))

-- ---- where nothing is masked

pub same_of_all_kept : (ways : Ways) → KeepsAll ways → (a b : List Entry) → SameBut ways a b
    → Same a b
same_of_all_kept ways keeps a b s =
    let kept = names_kept ways keeps in
    same_of_kept ways keeps a b (rw (kept a, kept b) at s)

pub all_kept_of_same : (ways : Ways) → KeepsAll ways → (a b : List Entry) → Same a b
    → SameBut ways a b
all_kept_of_same ways keeps a b s =
    let kept = names_kept ways keeps in
    rw (kept a, kept b) (kept_of_same ways keeps a b s)
