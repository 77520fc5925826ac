-- Ranks, and places among the distinct members of a list.
use Rattle.capture3.proofs.Common.{◌≡◌, ◌+◌, ◌≤◌, Bool, true, false, cond, List, [], ◌∷◌, ◌++◌, length, refl, sym, ap, ap₂, ◌∙◌, arith, append-nil, length-append, list_any, position_or_len, before, distinct, rank, with_key, with_keys}
use Rattle.std.specs.Prelude.{not, ◌||◌}
use Rattle.std.specs.Cmp.{IsEquivalence}

-- ---- tests

pub by_test : {P : Type 0} (b : Bool) → (b ≡ true → P) → (b ≡ false → P) → P
by_test true t f = t refl
by_test false t f = f refl

pub or_true : (b : Bool) → (b || true) ≡ true
or_true true = refl
or_true false = refl

pub cond_either : {X : Type 0} (P : X → Type 0) {x y : X} (b : Bool) → P x → P y → P (cond b x y)
cond_either P true p q = p
cond_either P false p q = q

-- ---- places among the distinct members

module _ {K : Type 0} (same : K → K → Bool) (laws : IsEquivalence same) where
  any-append : (x : K) (l m : List K) → list_any (same x) l ≡ true
      → list_any (same x) (l ++ m) ≡ true
  any-append x [] m e = absurd cc
  any-append x (y ∷ l) m e =
      by_test (same x y) (λ t. rw t refl) (λ f. rw f (any-append x l m (rw f at e)))

  any-alike : (x y : K) → same x y ≡ true → (l : List K) → list_any (same x) l ≡ list_any (same y) l
  any-alike x y t [] = refl
  any-alike x y t (z ∷ l) = ap₂ (λ a b. a || b) (laws.congr x y z t) (any-alike x y t l)

  any-push : (x y : K) (ks : List K) → same x y ≡ false → list_any (same x) ks ≡ false
      → list_any (same x) (ks ++ y ∷ []) ≡ false
  any-push x y [] f e = rw f refl
  any-push x y (k ∷ ks) f e =
      by_test (same x k) (λ t. absurd (cc (t, e))) (λ g. rw g (any-push x y ks f (rw g at e)))

  any-with_keys : (x : K) (l ks : List K) → list_any (same x) ks ≡ true
      → list_any (same x) (with_keys same ks l) ≡ true
  any-with_keys x [] ks e = e
  any-with_keys x (y ∷ l) ks e =
      any-with_keys x l (with_key same ks y) (cond_either (λ ls. list_any (same x) ls ≡ true)
      (list_any (same y) ks) e (any-append x ks (y ∷ []) e))

  any-last : (x y : K) (ks : List K) → same x y ≡ true → list_any (same x) (ks ++ y ∷ []) ≡ true
  any-last x y [] t = rw t refl
  any-last x y (k ∷ ks) t = rw (any-last x y ks t) (or_true (same x k))

  any-with_key : (x y : K) (ks : List K) → same x y ≡ true
      → list_any (same x) (with_key same ks y) ≡ true
  any-with_key x y ks t =
      by_test (list_any (same y) ks) (λ s. rw s (any-alike x y t ks ∙ s))
      (λ f. rw f (any-last x y ks t))

  -- a key that is like one of the list is like a distinct one
  pub any-distinct : (x : K) (l ks : List K) → list_any (same x) l ≡ true
      → list_any (same x) (with_keys same ks l) ≡ true
  any-distinct x [] ks e = absurd cc
  any-distinct x (y ∷ l) ks e =
      by_test (same x y) (λ t. any-with_keys x l (with_key same ks y) (any-with_key x y ks t))
      (λ f. any-distinct x l (with_key same ks y) (rw f at e))

  -- a key's place stays when keys are added
  place-append : (x : K) (l m : List K) → list_any (same x) l ≡ true
      → position_or_len (same x) (l ++ m) ≡ position_or_len (same x) l
  place-append x [] m e = absurd cc
  place-append x (y ∷ l) m e =
      by_test (same x y) (λ t. rw t refl)
      (λ f. ap (λ n. cond (not (same x y)) (1 + n) 0) (place-append x l m (rw f at e)))

  place-with_keys : (x : K) (l ks : List K) → list_any (same x) ks ≡ true
      → position_or_len (same x) (with_keys same ks l) ≡ position_or_len (same x) ks
  place-with_keys x [] ks e = refl
  place-with_keys x (y ∷ l) ks e =
      place-with_keys x l (with_key same ks y) (cond_either (λ ls. list_any (same x) ls ≡ true)
      (list_any (same y) ks) e (any-append x ks (y ∷ []) e))
      ∙ cond_either (λ ls. position_or_len (same x) ls ≡ position_or_len (same x) ks)
      (list_any (same y) ks) refl (place-append x ks (y ∷ []) e)

  place-absent : (x : K) (ks m : List K) → list_any (same x) ks ≡ false
      → position_or_len (same x) (ks ++ m) ≡ length ks + position_or_len (same x) m
  place-absent x [] m e = omega arith
  place-absent x (y ∷ ks) m e =
      by_test (same x y)
      (λ t. absurd (cc (t, e)))
      (λ f. rw f (omega (arith, place-absent x ks m (rw f at e))))

  -- where x is not among the keys, it goes last and stays there
  place-added : (x y : K) (l ks : List K) → same x y ≡ true → list_any (same x) ks ≡ false
      → position_or_len (same x) (with_keys same (with_key same ks y) l) ≡ length ks
  place-added x y l ks t e =
      let last : position_or_len (same x) (ks ++ y ∷ []) ≡ length ks + 0 =
      place-absent x ks (y ∷ []) e ∙ ap (λ (b : Bool). length ks + cond (not b) 1 0) t in
      rw (sym (any-alike x y t ks) ∙ e)
      (omega (arith, place-with_keys x l (ks ++ y ∷ []) (any-last x y ks t), last))

  -- a key's place among the distinct members is the number of those before its first place
  place-distinct : (x : K) (l ks : List K) → list_any (same x) ks ≡ false
      → position_or_len (same x) (with_keys same ks l)
      ≡ length (with_keys same ks (before same x l))
  place-distinct x [] ks e = omega (arith, rw append-nil at (place-absent x ks [] e))
  place-distinct x (y ∷ l) ks e =
      by_test (same x y)
      (λ t. rw t (place-added x y l ks t e))
      (λ f.
      rw f (place-distinct x l (with_key same ks y) (cond_either
      (λ ls. list_any (same x) ls ≡ false) (list_any (same y) ks) e
      (any-push x y ks f e))))

  pub rank-place : (x : K) (l : List K)
      → rank same x l ≡ 1 + position_or_len (same x) (distinct same l)
  rank-place x l = ap (λ n. 1 + n) (sym (place-distinct x l [] refl))

  pub before-push : (x : K) (l : List K) → before same x (l ++ x ∷ []) ≡ before same x l
  before-push x [] = rw (laws.refl x) refl
  before-push x (y ∷ l) = ap (λ (k : List K). cond (same x y) [] (y ∷ k)) (before-push x l)

  -- a key's number by the table of the distinct keys before it
  pub rank-push : (x : K) (l : List K)
      → rank same x (l ++ x ∷ []) ≡ 1 + position_or_len (same x) (distinct same l)
  rank-push x l = ap (λ k. 1 + length (distinct same k)) (before-push x l) ∙ rank-place x l

  with_keys-push : (x : K) (l ks : List K)
      → with_keys same ks (l ++ x ∷ []) ≡ with_key same (with_keys same ks l) x
  with_keys-push x [] ks = refl
  with_keys-push x (y ∷ l) ks = with_keys-push x l (with_key same ks y)

  pub distinct-push : (x : K) (l : List K)
      → distinct same (l ++ x ∷ []) ≡ with_key same (distinct same l) x
  distinct-push x l = with_keys-push x l []

  pub before-append : (x : K) (l m : List K) → list_any (same x) l ≡ true
      → before same x (l ++ m) ≡ before same x l
  before-append x [] m e = absurd cc
  before-append x (y ∷ l) m e =
      by_test (same x y) (λ t. rw t refl)
      (λ f. ap (λ (k : List K). cond (same x y) [] (y ∷ k)) (before-append x l m (rw f at e)))

  length-with_key : (y : K) (ks : List K) → length (with_key same ks y) ≤ length ks + 1
  length-with_key y ks =
      cond_either (λ ls. length ls ≤ length ks + 1) (list_any (same y) ks) (omega arith)
      (omega (arith, length-append ks (y ∷ [])))

  pub length-with_keys : (l ks : List K) → length (with_keys same ks l) ≤ length ks + length l
  length-with_keys [] ks = omega arith
  length-with_keys (y ∷ l) ks =
      omega (arith, length-with_keys l (with_key same ks y), length-with_key y ks)

  pub length-before : (x : K) (l : List K) → length (before same x l) ≤ length l
  length-before x [] = omega arith
  length-before x (y ∷ l) =
      cond_either (λ k. length k ≤ length (y ∷ l)) (same x y) (omega arith)
      (omega (arith, length-before x l))

  pub before-absent : (x : K) (l : List K) → list_any (same x) l ≡ false → before same x l ≡ l
  before-absent x [] e = refl
  before-absent x (y ∷ l) e =
      by_test (same x y)
      (λ t. absurd (cc (t, e)))
      (λ f. rw f (ap (λ (k : List K). y ∷ k) (before-absent x l (rw f at e))))

  -- a key that is like none of the list is like no distinct one
  pub any-absent : (x : K) (l ks : List K) → list_any (same x) ks ≡ false
      → list_any (same x) l ≡ false → list_any (same x) (with_keys same ks l) ≡ false
  any-absent x [] ks none e = none
  any-absent x (y ∷ l) ks none e =
      by_test (same x y)
      (λ t. absurd (cc (t, e)))
      (λ f.
      any-absent x l (with_key same ks y)
      (cond_either (λ ls. list_any (same x) ls ≡ false) (list_any (same y) ks) none
      (any-push x y ks f none))
      (rw f at e))
