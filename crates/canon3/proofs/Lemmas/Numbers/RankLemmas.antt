-- Ranks are blind to one-to-one renaming, and tell the members of a list apart.
use Rattle.canon3.proofs.Common.{◌≡◌, ◌≢◌, ◌⊎◌, inl, inr, ⊎_elim, suc, ◌+◌, ◌<◌, ◌≤◌, Bool, true, false, cond, ◌||◌, List, [], ◌∷◌, ◌++◌, length, map, refl, sym, ap, ap₂, ◌∙◌, subst, arith, Decides, list_any, position_or_len, Member, here, there, Pairwise, none, more}
use Rattle.std.specs.Cmp.{IsEquivalence}
use Rattle.std.proofs.lemmas.Bool.{false_from_ne_true}
use Rattle.capture3.specs.Rank.{before, distinct, rank, with_key, with_keys}
use Rattle.canon3.specs.OneToOne.{IsInjectiveOn}
use Rattle.capture3.proofs.Lemmas.Connections.RankLemmas.{before-append, by_test, cond_either, length-with_keys, or_true, rank-place}

-- ---- lists side by side

pub pairwise-append : {A B : Type 0} {R : A → B → Type 0} {l m : List A} {l' m' : List B}
    → Pairwise R l l' → Pairwise R m m' → Pairwise R (l ++ m) (l' ++ m')
pairwise-append none q = q
pairwise-append (more r p) q = more r (pairwise-append p q)

pub pairwise-length : {A B : Type 0} {R : A → B → Type 0} {l : List A} {m : List B} → Pairwise R l m
    → length l ≡ length m
pairwise-length none = refl
pairwise-length (more r p) = ap suc (pairwise-length p)

-- ---- what stands beside one another is alike

module _ {K L : Type 0} (same : K → K → Bool) (alike : L → L → Bool) (R : K → L → Type 0)
    (agree : (x y : K) (u v : L) → R x u → R y v → same x y ≡ alike u v) where
  any_paired : {x : K} {u : L} {ks : List K} {ls : List L} → R x u → Pairwise R ks ls
      → list_any (same x) ks ≡ list_any (alike u) ls
  any_paired r none = refl
  any_paired r (more s p) = ap₂ (λ a b. a || b) (agree _ _ _ _ r s) (any_paired r p)

  cond_paired : {ks ks' : List K} {ls ls' : List L} (b : Bool) → Pairwise R ks ls
      → Pairwise R ks' ls' → Pairwise R (cond b ks ks') (cond b ls ls')
  cond_paired true p q = p
  cond_paired false p q = q

  with_keys_paired : {l : List K} {m : List L} → Pairwise R l m → (ks : List K) (ls : List L)
      → Pairwise R ks ls → Pairwise R (with_keys same ks l) (with_keys alike ls m)
  with_keys_paired none ks ls p = p
  with_keys_paired (more {x = x} {y = u} r q) ks ls p =
      with_keys_paired q (with_key same ks x) (with_key alike ls u)
      (rw (any_paired r p)
      (cond_paired (list_any (alike u) ls) p (pairwise-append p (more r none))))

  before_paired : {x : K} {u : L} {l : List K} {m : List L} → R x u → Pairwise R l m
      → Pairwise R (before same x l) (before alike u m)
  before_paired r none = none
  before_paired {u = u} r (more {y = v} s q) =
      rw (agree _ _ _ _ r s) (cond_paired (alike u v) none (more s (before_paired r q)))

  pub distinct_paired : {l : List K} {m : List L} → Pairwise R l m
      → length (distinct same l) ≡ length (distinct alike m)
  distinct_paired p = pairwise-length (with_keys_paired p [] [] none)

  pub rank_paired : {x : K} {u : L} {l : List K} {m : List L} → R x u → Pairwise R l m
      → rank same x l ≡ rank alike u m
  rank_paired r p = ap (λ n. 1 + n) (distinct_paired (before_paired r p))

-- ---- distinct ones by what they hold

module _ {K L : Type 0} (same : L → L → Bool) (f : K → L) where
  held : (l : List K) → Pairwise (λ x u. f x ≡ u) l (map f l)
  held [] = none
  held (x ∷ l) = more refl (held l)

  pub distinct_mapped : (l : List K)
      → length (distinct (λ x y. same (f x) (f y)) l) ≡ length (distinct same (map f l))
  distinct_mapped l = distinct_paired _ same _ (λ x y u v p q. ap₂ same p q) (held l)

  pub rank_mapped : (x : K) (l : List K)
      → rank (λ x y. same (f x) (f y)) x l ≡ rank same (f x) (map f l)
  rank_mapped x l = rank_paired _ same _ (λ x y u v p q. ap₂ same p q) refl (held l)

-- ---- members

pub member-append_left : {K : Type 0} {x : K} {l : List K} (m : List K) → Member x l
    → Member x (l ++ m)
member-append_left m here = here
member-append_left m (there h) = there (member-append_left m h)

pub member-append_right : {K : Type 0} {x : K} (l : List K) {m : List K} → Member x m
    → Member x (l ++ m)
member-append_right [] h = h
member-append_right (y ∷ l) h = there (member-append_right l h)

pub member-append_cases : {K : Type 0} {x : K} (l : List K) {m : List K} → Member x (l ++ m)
    → Member x l ⊎ Member x m
member-append_cases [] h = inr h
member-append_cases (y ∷ l) here = inl here
member-append_cases (y ∷ l) (there h) =
    ⊎_elim (λ a. inl (there a)) (λ b. inr b) (member-append_cases l h)

pub member_under : {K : Type 0} {x y : K} {l m : List K} → (Member x l → Member x m)
    → Member x (y ∷ l) → Member x (y ∷ m)
member_under f here = here
member_under f (there h) = there (f h)

-- ---- members, where the test decides equality

module _ {K : Type 0} (same : K → K → Bool) (decides : (x y : K) → Decides (same x y) (x ≡ y)) where
  pub itself : (x : K) → same x x ≡ true
  itself x = (decides x x).1 refl

  pub apart : (x y : K) → x ≢ y → same x y ≡ false
  apart x y ne = false_from_ne_true (same x y) (λ e. ne ((decides x y).0 e))

  pub equivalence : IsEquivalence same
  equivalence = record {
    refl = itself;
    symm = λ x y. by_test (same x y)
        (λ t. t ∙ sym ((decides y x).1 (sym ((decides x y).0 t))))
        (λ f. f ∙ sym (apart y x (λ e. absurd (cc (f, (decides x y).1 (sym e))))));
    congr = λ x y z t. ap (λ k. same k z) ((decides x y).0 t);
  }

  any-member : {x : K} {l : List K} → Member x l → list_any (same x) l ≡ true
  any-member {x = x} here = rw (itself x) refl
  any-member {x = x} (there {y = y} m) = rw (any-member m) (or_true (same x y))

  pub member_of_test : (x : K) (l : List K) → list_any (same x) l ≡ true → Member x l
  member_of_test x [] e = absurd cc
  member_of_test x (y ∷ l) e =
      by_test (same x y)
      (λ t. subst (λ z. Member x (z ∷ l)) ((decides x y).0 t) here)
      (λ f. there (member_of_test x l (rw f at e)))

  member-with_key : {x : K} {ks : List K} (k : K) → Member x ks → Member x (with_key same ks k)
  member-with_key {x = x} {ks = ks} k h =
      cond_either (Member x) (list_any (same k) ks) h (member-append_left (k ∷ []) h)

  member-tail : {x y : K} {l : List K} → same x y ≡ false → Member x (y ∷ l) → Member x l
  member-tail {x = x} f here = absurd (cc (itself x, f))
  member-tail f (there m) = m

  same_place : (x y : K) (ks : List K) → Member x ks → Member y ks
      → position_or_len (same x) ks ≡ position_or_len (same y) ks → x ≡ y
  same_place x y [] m n e = elim m [ ]
  same_place x y (k ∷ ks) m n e =
      by_test (same x k)
      (λ s.
      by_test (same y k) (λ t. (decides x k).0 s ∙ sym ((decides y k).0 t))
      (λ t. absurd (omega (arith, rw (s, t) at e))))
      (λ s.
      by_test (same y k) (λ t. absurd (omega (arith, rw (s, t) at e))) (λ t.
      same_place x y ks (member-tail s m) (member-tail t n)
      (omega (arith, rw (s, t) at e))))

  member-with_key_itself : (x : K) (ks : List K) → Member x (with_key same ks x)
  member-with_key_itself x ks =
      by_test (list_any (same x) ks) (λ t. rw t (member_of_test x ks t))
      (λ f. rw f (member-append_right ks here))

  member-with_keys_left : {x : K} (l ks : List K) → Member x ks → Member x (with_keys same ks l)
  member-with_keys_left [] ks h = h
  member-with_keys_left (y ∷ l) ks h =
      member-with_keys_left l (with_key same ks y) (member-with_key y h)

  member-distinct : {x : K} {l : List K} → Member x l → (ks : List K)
      → Member x (with_keys same ks l)
  member-distinct {x = x} (here {l = l}) ks =
      member-with_keys_left l (with_key same ks x) (member-with_key_itself x ks)
  member-distinct (there {y = y} m) ks = member-distinct m (with_key same ks y)

  -- members of one rank are one
  pub same_rank : {x y : K} {l : List K} → Member x l → Member y l → rank same x l ≡ rank same y l
      → x ≡ y
  same_rank {x = x} {y = y} {l = l} m n e =
      same_place x y (distinct same l) (member-distinct m []) (member-distinct n [])
      (omega (arith, e, rank-place same equivalence x l, rank-place same equivalence y l))

  -- what comes after a member's first place leaves its rank
  pub rank-append : {x : K} {l : List K} (m : List K) → Member x l
      → rank same x (l ++ m) ≡ rank same x l
  rank-append {x = x} {l = l} m h =
      ap (λ k. 1 + length (distinct same k)) (before-append same equivalence x l m (any-member h))

  length-before : {x : K} {l : List K} → Member x l → length (before same x l) < length l
  length-before {x = x} (here {l = l}) = rw (itself x) (omega arith)
  length-before {x = x} (there {y = y} {l = l} h) =
      cond_either (λ k. length k < length (y ∷ l)) (same x y) (omega arith)
      (omega (arith, length-before h))

  pub rank-le-length : {x : K} {l : List K} → Member x l → rank same x l ≤ length l
  rank-le-length {x = x} {l = l} m =
      omega (arith, length-with_keys same equivalence (before same x l) [], length-before m)

-- ---- injective functions

module _ {K L : Type 0} (same : K → K → Bool) (decides : (x y : K) → Decides (same x y) (x ≡ y))
    (alike : L → L → Bool) (decides_alike : (u v : L) → Decides (alike u v) (u ≡ v))
    (f : K → L) where
  pairwise-map : (l all : List K) → ((x : K) → Member x l → Member x all)
      → Pairwise (λ x u. Member x all × (f x ≡ u)) l (map f l)
  pairwise-map [] all w = none
  pairwise-map (x ∷ l) all w = more (w x here, refl) (pairwise-map l all (λ y m. w y (there m)))

  agree-injective : (all : List K) → IsInjectiveOn f all → (x y : K) (u v : L)
      → Member x all × (f x ≡ u) → Member y all × (f y ≡ v) → same x y ≡ alike u v
  agree-injective all one x y u v p q =
      rw (← p.1, ← q.1) (by_test (same x y)
      (λ t. t ∙ sym ((decides_alike (f x) (f y)).1 (ap f ((decides x y).0 t))))
      (λ d.
      d
      ∙ sym (apart alike decides_alike (f x) (f y)
      (λ e. absurd (cc (d, (decides x y).1 (one x y p.0 q.0 e)))))))

  -- ranks are blind to one-to-one renaming
  pub rank-map : (x : K) (l : List K) → IsInjectiveOn f (x ∷ l)
      → rank alike (f x) (map f l) ≡ rank same x l
  rank-map x l one =
      sym (rank_paired same alike (λ y u. Member y (x ∷ l) × (f y ≡ u))
      (agree-injective (x ∷ l) one) (here, refl) (pairwise-map l (x ∷ l) (λ y m. there m)))
