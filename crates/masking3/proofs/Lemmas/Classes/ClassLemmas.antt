-- Classes, their places, and their values.
use Rattle.masking3.proofs.Common.{◌≡◌, ◌≢◌, ◌<◌, ℕ, List, [], ◌++◌, refl, sym, ap, ◌∙◌, subst, arith, append-nil, Decides-eqb, by_test, Class, Times, Number, Ways, classes, position, value_where, way_of, ◌==◌, get_or, Option, None, Some, HoldsAt, HoldsValues, with_one}

-- ---- places

pub class_back : (c : Class) → get_or classes (position c) Times ≡ c
class_back c =
    elim c as (λ k. get_or classes (position k) Times ≡ k) [ Times ↦ refl | _ ↦ refl ]

pub place_within : (c : Class) → position c < 13
place_within c = elim c as (λ k. position k < 13) [ Times ↦ omega arith | _ ↦ omega arith ]

pub same_class : (c d : Class) → position c ≡ position d → c ≡ d
same_class c d e =
    sym (class_back c) ∙ (ap (λ n. get_or classes n Times) e ∙ class_back d)

-- ---- values

pub none_of_other : (c d : Class) (n : ℕ) → c ≢ d → value_where c (Some d) n ≡ []
none_of_other c d n ne =
    by_test (position c == position d)
    (λ t. absurd (ne (same_class c d ((Decides-eqb (position c) (position d)).0 t))))
    (λ f. rw f refl)

-- two are equal if they are for each class
pub seen_alike : (first second : Class → List ℕ) → ((d : Class) → first d ≡ second d)
    → first ≡ second
seen_alike first second e = λ i. λ d. e d i

-- ---- tables

module _ (ways : Ways) (tables : List (List ℕ)) (seen : Class → List ℕ) (own : Option Class)
    (n : ℕ) where
  holds_still : ((c : Class) → way_of ways c ≡ Number → value_where c own n ≡ [])
      → HoldsValues ways tables seen → HoldsValues ways tables (with_one seen own n)
  holds_still none held c numbered =
      subst (HoldsAt tables (position c))
      (sym (ap (λ (l : List ℕ). seen c ++ l) (none c numbered) ∙ append-nil (seen c)))
      (held c numbered)

  -- of no class
  pub holds_without : own ≡ None → HoldsValues ways tables seen
      → HoldsValues ways tables (with_one seen own n)
  holds_without none = holds_still (λ c numbered. ap (λ o. value_where c o n) none)

  -- of a class that is not numbered
  pub holds_unnumbered : (d : Class) → own ≡ Some d → way_of ways d ≢ Number
      → HoldsValues ways tables seen → HoldsValues ways tables (with_one seen own n)
  holds_unnumbered d is not =
      holds_still (λ c numbered.
      ap (λ o. value_where c o n) is
      ∙ none_of_other c d n (λ e. not (subst (λ k. way_of ways k ≡ Number) e numbered)))

-- of a class that is numbered, and its table was given the value
pub holds_numbered : (ways : Ways) (old new : List (List ℕ)) (seen : Class → List ℕ)
    (own : Option Class) (n : ℕ) (d : Class) → own ≡ Some d
    → HoldsAt new (position d) (seen d ++ value_where d (Some d) n)
    → ((place : ℕ) → place ≢ position d → get_or new place [] ≡ get_or old place [])
    → HoldsValues ways old seen → HoldsValues ways new (with_one seen own n)
holds_numbered ways old new seen own n d is given others values c numbered =
    subst (λ o. HoldsAt new (position c) (seen c ++ value_where c o n)) (sym is)
    (same_or_other c (values c numbered))
  where
    same_or_other : (c : Class) → HoldsAt old (position c) (seen c)
        → HoldsAt new (position c) (seen c ++ value_where c (Some d) n)
    same_or_other c held = by_test (position c == position d)
        (λ t.
        subst (λ k. HoldsAt new (position k) (seen k ++ value_where k (Some d) n))
        (sym (same_class c d ((Decides-eqb (position c) (position d)).0 t))) given)
        (λ f. let apart : position c ≢ position d = λ e.
        absurd (cc (f, (Decides-eqb (position c) (position d)).1 e)) in
        let none : value_where c (Some d) n ≡ [] =
        none_of_other c d n (λ e. apart (ap position e)) in
        subst (HoldsAt new (position c))
        (sym (ap (λ (l : List ℕ). seen c ++ l) none ∙ append-nil (seen c)))
        (others (position c) apart ∙ held))
