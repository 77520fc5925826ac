-- Lists of pairs that agree are one-to-one once each pair is kept one time; they can be turned and
-- linked.
use Rattle.canon3.proofs.Common.{◌≡◌, ⊎_elim, Bool, true, false, cond, List, [], ◌∷◌, ◌++◌, refl, sym, ap, ap₂, ◌∙◌, subst, Decides, list_any}
use Rattle.canon3.specs.OneToOne.{Member, here, there, Pairs, NoTwoAlike, OneToOne}
use Rattle.capture3.proofs.Lemmas.Connections.RankLemmas.{by_test, cond_either}
use Rattle.canon3.proofs.Lemmas.Numbers.RankLemmas.{itself, apart, member-append_left, member-append_right, member-append_cases, member_under}

-- the pairs, turned
abbrev pub turned : {K : Type 0} → Pairs K → Pairs K
turned [] = []
turned (p ∷ ps) = (p.1, p.0) ∷ turned ps

pub member-turned : {K : Type 0} {x y : K} {ps : Pairs K} → Member (x, y) ps
    → Member (y, x) (turned ps)
member-turned here = here
member-turned (there m) = there (member-turned m)

turned-member : {K : Type 0} (ps : Pairs K) (p : K × K) → Member p (turned ps)
    → Member (p.1, p.0) ps
turned-member [] p m = elim m [ ]
turned-member (q ∷ ps) p here = here
turned-member (q ∷ ps) p (there m) = there (turned-member ps p m)

-- each member of the list with its value
abbrev pub graph : {K : Type 0} → (K → K) → List K → Pairs K
graph f [] = []
graph f (x ∷ l) = (x, f x) ∷ graph f l

pub member-graph : {K : Type 0} {x : K} {l : List K} (f : K → K) → Member x l
    → Member (x, f x) (graph f l)
member-graph f here = here
member-graph f (there m) = there (member-graph f m)

pub graph-member : {K : Type 0} (f : K → K) (l : List K) (p : K × K) → Member p (graph f l)
    → Member p.0 l × (p.1 ≡ f p.0)
graph-member f [] p m = elim m [ ]
graph-member f (x ∷ l) p here = (here, refl)
graph-member f (x ∷ l) p (there m) = let r = graph-member f l p m in (there r.0, r.1)

module _ {K : Type 0} (same : K → K → Bool) where
  abbrev pub Alike : Pairs K → Type 0
  Alike ps = (p q : K × K) → Member p ps → Member q ps → same p.0 q.0 ≡ same p.1 q.1

  -- what OneToOne says, where a pair may be repeated
  pub record Agree (IsPart : K → Type 0) (ps : Pairs K) : Type 0 where
    pub parts : (p : K × K) → Member p ps → IsPart p.0 × IsPart p.1
    pub alike : Alike ps

  -- each pair one time
  abbrev pub kept : Pairs K → Pairs K
  kept [] = []
  kept (p ∷ ps) = cond (list_any (λ q. same p.0 q.0) ps) (kept ps) (p ∷ kept ps)

  -- from p's first part to the second part of each pair that begins where p ends
  abbrev onward : K × K → Pairs K → Pairs K
  onward p [] = []
  onward p (q ∷ qs) = cond (same p.1 q.0) ((p.0, q.1) ∷ onward p qs) (onward p qs)

  abbrev pub linked : Pairs K → Pairs K → Pairs K
  linked [] qs = []
  linked (p ∷ ps) qs = onward p qs ++ linked ps qs

module _ {K : Type 0} (same : K → K → Bool) (decides : (x y : K) → Decides (same x y) (x ≡ y)) where
  alike-from : {p q : K × K} {ps : Pairs K} → Member p ps → Member q ps → NoTwoAlike ps
      → same p.0 q.0 ≡ same p.1 q.1
  alike-from {p = p} here here n = itself same decides p.0 ∙ sym (itself same decides p.1)
  alike-from {p = p} {q = q} here (there m) n =
      apart same decides p.0 q.0 (n.0 q m).0 ∙ sym (apart same decides p.1 q.1 (n.0 q m).1)
  alike-from {p = p} {q = q} (there m) here n =
      apart same decides p.0 q.0 (λ e. (n.0 p m).0 (sym e))
      ∙ sym (apart same decides p.1 q.1 (λ e. (n.0 p m).1 (sym e)))
  alike-from (there m) (there k) n = alike-from m k n.1

  pub agree-from : {IsPart : K → Type 0} {ps : Pairs K} → OneToOne IsPart ps → Agree same IsPart ps
  agree-from o = record { parts = o.parts; alike = λ p q m n. alike-from m n o.no_two_alike }

  kept-member : (ps : Pairs K) (p : K × K) → Member p (kept same ps) → Member p ps
  kept-member [] p = λ m. m
  kept-member (q ∷ ps) p =
      cond_either (λ (l : Pairs K). Member p l → Member p (q ∷ ps))
      (list_any (λ r. same q.0 r.0) ps) (λ m. there (kept-member ps p m))
      (member_under (kept-member ps p))

  first-found : (x : K) (ps : Pairs K) → list_any (λ q. same x q.0) ps ≡ true
      → (q : K × K) × Member q ps × (same x q.0 ≡ true)
  first-found x [] e = absurd cc
  first-found x (p ∷ ps) e =
      by_test (same x p.0) (λ t. (p, here, t))
      (λ f. let r = first-found x ps (rw f at e) in (r.0, there r.1, r.2))

  first-missing : (x : K) (ps : Pairs K) (q : K × K) → list_any (λ q. same x q.0) ps ≡ false
      → Member q ps → same x q.0 ≡ false
  first-missing x [] q e m = elim m [ ]
  first-missing x (p ∷ ps) q e here = by_test (same x p.0) (λ t. absurd (cc (t, e))) (λ f. f)
  first-missing x (p ∷ ps) q e (there m) =
      by_test (same x p.0) (λ t. absurd (cc (t, e))) (λ f. first-missing x ps q (rw f at e) m)

  tail_alike : {p : K × K} {ps : Pairs K} → Alike same (p ∷ ps) → Alike same ps
  tail_alike al p q m n = al p q (there m) (there n)

  -- a pair whose first part comes again comes again
  again : (p : K × K) (ps : Pairs K) → Alike same (p ∷ ps) → list_any (λ q. same p.0 q.0) ps ≡ true
      → Member p ps
  again p ps al t =
      let r = first-found p.0 ps t in
      let first : p.0 ≡ r.0.0 = (decides p.0 r.0.0).0 r.2 in
      let second : p.1 ≡ r.0.1 = (decides p.1 r.0.1).0 (sym (al p r.0 here (there r.1)) ∙ r.2) in
      subst (λ q. Member q ps) (ap₂ (λ x y. (x, y)) (sym first) (sym second)) r.1

  pub member-kept : (ps : Pairs K) (p : K × K) → Alike same ps → Member p ps
      → Member p (kept same ps)
  member-kept [] p al m = m
  member-kept (q ∷ ps) p al here =
      by_test (list_any (λ r. same p.0 r.0) ps)
      (λ t. rw t (member-kept ps p (tail_alike al) (again p ps al t))) (λ f. rw f here)
  member-kept (q ∷ ps) p al (there m) =
      cond_either (Member p) (list_any (λ r. same q.0 r.0) ps) (member-kept ps p (tail_alike al) m)
      (there (member-kept ps p (tail_alike al) m))

  no_two_alike-kept : (ps : Pairs K) → Alike same ps → NoTwoAlike (kept same ps)
  no_two_alike-kept [] al = tt
  no_two_alike-kept (p ∷ ps) al =
      let rest = no_two_alike-kept ps (tail_alike al) in
      by_test (list_any (λ r. same p.0 r.0) ps)
      (λ t. rw t rest)
      (λ f.
      rw f (
        (λ q m. let n = kept-member ps q m in
            let d : same p.0 q.0 ≡ false = first-missing p.0 ps q f n in (
              λ e. absurd (cc (d, (decides p.0 q.0).1 e)),
              λ e. absurd (cc (d, al p q here (there n), (decides p.1 q.1).1 e)),
            )),
        rest,
      ))

  pub one_to_one-kept : {IsPart : K → Type 0} (ps : Pairs K) → Agree same IsPart ps
      → OneToOne IsPart (kept same ps)
  one_to_one-kept ps g =
      record {
        parts = λ p m. g.parts p (kept-member ps p m);
        no_two_alike = no_two_alike-kept ps g.alike;
      }

  pub agree-turned : {IsPart : K → Type 0} {ps : Pairs K} → Agree same IsPart ps
      → Agree same IsPart (turned ps)
  agree-turned {ps = ps} g = record {
    parts = λ p m. let h = g.parts (p.1, p.0) (turned-member ps p m) in (h.1, h.0);
    alike =
        λ p q m n.
        sym (g.alike (p.1, p.0) (q.1, q.0) (turned-member ps p m) (turned-member ps q n));
  }

  member-onward : {x y z : K} {qs : Pairs K} → Member (y, z) qs
      → Member (x, z) (onward same (x, y) qs)
  member-onward {y = y} here = rw (itself same decides y) here
  member-onward {x = x} {y = y} {z = z} (there {y = q} {l = qs} m) =
      cond_either (Member (x, z)) (same y q.0) (there (member-onward m)) (member-onward m)

  pub member-linked : {x y z : K} {ps qs : Pairs K} → Member (x, y) ps → Member (y, z) qs
      → Member (x, z) (linked same ps qs)
  member-linked {x = x} {y = y} {qs = qs} (here {l = l}) n =
      member-append_left (linked same l qs) (member-onward n)
  member-linked {qs = qs} (there {y = p} m) n =
      member-append_right (onward same p qs) (member-linked m n)

  abbrev Onward : K × K → Pairs K → K × K → Type 0
  Onward p qs r = (q : K × K) × Member q qs × (p.1 ≡ q.0) × (r ≡ (p.0, q.1))

  onward_under : (p q : K × K) (qs l : Pairs K) (r : K × K) → p.1 ≡ q.0
      → (Member r l → Onward p qs r) → Member r ((p.0, q.1) ∷ l) → Onward p (q ∷ qs) r
  onward_under p q qs l r e f here = (q, here, e, refl)
  onward_under p q qs l r e f (there m) = let o = f m in (o.0, there o.1, o.2, o.3)

  onward-member : (p : K × K) (qs : Pairs K) (r : K × K) → Member r (onward same p qs)
      → Onward p qs r
  onward-member p [] r m = elim m [ ]
  onward-member p (q ∷ qs) r m =
      by_test (same p.1 q.0)
      (λ t.
      onward_under p q qs (onward same p qs) r ((decides p.1 q.0).0 t) (onward-member p qs r)
      (rw t at m))
      (λ f. let o = onward-member p qs r (rw f at m) in (o.0, there o.1, o.2, o.3))

  linked-member : (ps qs : Pairs K) (r : K × K) → Member r (linked same ps qs)
      → (p q : K × K) × Member p ps × Member q qs × (p.1 ≡ q.0) × (r ≡ (p.0, q.1))
  linked-member [] qs r m = elim m [ ]
  linked-member (p ∷ ps) qs r m =
      ⊎_elim (λ a. let o = onward-member p qs r a in (p, o.0, here, o.1, o.2, o.3))
      (λ b. let o = linked-member ps qs r b in (o.0, o.1, there o.2, o.3, o.4, o.5))
      (member-append_cases (onward same p qs) m)

  pub agree-linked : {IsPart : K → Type 0} {ps qs : Pairs K} → Agree same IsPart ps
      → Agree same IsPart qs → Agree same IsPart (linked same ps qs)
  agree-linked {IsPart = IsPart} {ps = ps} {qs = qs} g h = record {
    parts =
        λ r m. let o = linked-member ps qs r m in rw o.5 ((g.parts o.0 o.2).0, (h.parts o.1 o.3).1);
    alike = λ r s m n.
        let o = linked-member ps qs r m in
        let u = linked-member ps qs s n in
        let e = g.alike o.0 u.0 o.2 u.2 in
        let f = h.alike o.1 u.1 o.3 u.3 in
        rw (o.5, u.5) (e ∙ ap₂ same o.4 u.4 ∙ f);
  }

  pub agree-graph : {IsPart : K → Type 0} (f : K → K) (l : List K)
      → ((x : K) → Member x l → IsPart x × IsPart (f x))
      → ((x y : K) → Member x l → Member y l → f x ≡ f y → x ≡ y) → Agree same IsPart (graph f l)
  agree-graph f l fit one = record {
    parts = λ p m. let r = graph-member f l p m in rw r.1 (fit p.0 r.0);
    alike = λ p q m n.
        let r = graph-member f l p m in
        let s = graph-member f l q n in
        rw (r.1, s.1) (by_test (same p.0 q.0)
        (λ t. t ∙ sym ((decides (f p.0) (f q.0)).1 (ap f ((decides p.0 q.0).0 t))))
        (λ d.
        d
        ∙ sym (apart same decides (f p.0) (f q.0)
        (λ e. absurd (cc (d, (decides p.0 q.0).1 (one p.0 q.0 r.0 s.0 e)))))));
  }
