-- The segment of a frame is read in one way.
use Rattle.std.proofs.Common.{◌≡◌, ◌≢◌, ℕ, zero, suc, ◌-◌, ◌∙◌, List, inl, inr, refl, sym, subst, arith}
use Rattle.recording3.specs.Segments.{IsSegment, LacksSegment, ReachesSegment, ReachesNone}
use Rattle.recording3.specs.Ip.{IsIp, NoIp}
use Rattle.recording3.specs.Tcp.{IsTcp, NoTcp}
use Rattle.recording3.specs.Tunnels.{IsInner, NoInner}
use Rattle.recording3.specs.declared.parts.Datagram.{Datagram}
use Rattle.recording3.specs.declared.parts.Segment.{Segment}
use Rattle.recording3.specs.declared.parts.NoSegment.{NoSegment}
use Rattle.recording3.specs.declared.parts.NoSegment.TheVariants.{NotTcp}
use Rattle.recording3.specs.declared.parts.Start.{Start}
use Rattle.recording3.proofs.IpLemmas.{same_ip, some_ip, one_ip}
use Rattle.recording3.proofs.LinkLemmas.{same_start, some_start, one_start}
use Rattle.recording3.proofs.TcpLemmas.{same_tcp, some_tcp, one_tcp}
use Rattle.recording3.proofs.TunnelsLemmas.{same_inner, some_inner, one_inner}

module _ (frame : List ℕ) where
  tcp_in : (d e : Datagram) (s : Segment) → d ≡ e → IsTcp frame d s → IsTcp frame e s
  tcp_in d e s q h = subst (λ (x : Datagram). IsTcp frame x s) q h

  no_tcp_in : (d e : Datagram) (why : NoSegment) → d ≡ e → NoTcp frame d why → NoTcp frame e why
  no_tcp_in d e why q h = subst (λ (x : Datagram). NoTcp frame x why) q h

  six_in : (d e : Datagram) → d ≡ e → d.protocol ≡ 6 → e.protocol ≡ 6
  six_in d e q h = subst (λ (x : Datagram). x.protocol ≡ 6) q h

  inner_in : (d e : Datagram) (s : Start) → d ≡ e → IsInner frame d s → IsInner frame e s
  inner_in d e s q h = subst (λ (x : Datagram). IsInner frame x s) q h

  no_inner_in : (d e : Datagram) (why : NoSegment) → d ≡ e → NoInner frame d why
      → NoInner frame e why
  no_inner_in d e why q h = subst (λ (x : Datagram). NoInner frame x why) q h

  reaches_in : (n : ℕ) (d e : Datagram) (s t : Start) (x : Segment) → d ≡ e → s ≡ t
      → ReachesSegment n frame s d.end x → ReachesSegment n frame t e.end x
  reaches_in n d e s t x q p h =
      subst (λ (z : Start). ReachesSegment n frame z e.end x) p
      (subst (λ (z : Datagram). ReachesSegment n frame s z.end x) q h)

  lacks_in : (n : ℕ) (d e : Datagram) (s t : Start) (why : NoSegment) → d ≡ e → s ≡ t
      → ReachesNone n frame s d.end why → ReachesNone n frame t e.end why
  lacks_in n d e s t why q p h =
      subst (λ (z : Start). ReachesNone n frame z e.end why) p
      (subst (λ (z : Datagram). ReachesNone n frame s z.end why) q h)

  pub same_reach : (n : ℕ) (start : Start) (wire : ℕ) (s t : Segment)
      → ReachesSegment n frame start wire s
      → ReachesSegment n frame start wire t → s ≡ t
  unfolding ReachesSegment
  same_reach zero start wire s t (d, i, e, h) (f, j, o, g) =
      same_tcp frame d s t h (tcp_in f d t (same_ip frame start wire f d j i) g)
  same_reach (suc n) start wire s t (d, i, inl h) (f, j, inl g) =
      same_tcp frame d s t h.1 (tcp_in f d t (same_ip frame start wire f d j i) g.1)
  same_reach (suc n) start wire s t (d, i, inl h) (f, j, inr g) =
      absurd (g.0 (six_in d f (same_ip frame start wire d f i j) h.0))
  same_reach (suc n) start wire s t (d, i, inr h) (f, j, inl g) =
      absurd (h.0 (six_in f d (same_ip frame start wire f d j i) g.0))
  same_reach (suc n) start wire s t (d, i, inr (m, x, k, r)) (f, j, inr (o, y, l, q)) =
      let e = same_ip frame start wire f d j i in
      let p = same_inner frame d y x (inner_in f d y e l) k in
      same_reach n x d.end s t r (reaches_in n f d y x t e p q)

  pub not_reach : (n : ℕ) (start : Start) (wire : ℕ) (s : Segment) (why : NoSegment)
      → ReachesSegment n frame start wire s
      → ReachesNone n frame start wire why → ⊥
  unfolding ReachesSegment ReachesNone
  not_reach zero start wire s why (d, i, e, h) (inl g) = some_ip frame start wire d i why g
  not_reach zero start wire s why (d, i, e, h) (inr (f, j, inl g)) =
      some_tcp frame d s h why (no_tcp_in f d why (same_ip frame start wire f d j i) g.1)
  not_reach zero start wire s why (d, i, e, h) (inr (f, j, inr g)) =
      g.0 (six_in d f (same_ip frame start wire d f i j) e)
  not_reach (suc n) start wire s why (d, i, h) (inl g) = some_ip frame start wire d i why g
  not_reach (suc n) start wire s why (d, i, inl h) (inr (f, j, inl g)) =
      some_tcp frame d s h.1 why (no_tcp_in f d why (same_ip frame start wire f d j i) g.1)
  not_reach (suc n) start wire s why (d, i, inl h) (inr (f, j, inr g)) =
      g.0 (six_in d f (same_ip frame start wire d f i j) h.0)
  not_reach (suc n) start wire s why (d, i, inr h) (inr (f, j, inl g)) =
      h.0 (six_in f d (same_ip frame start wire f d j i) g.0)
  not_reach (suc n) start wire s why (d, i, inr (m, x, k, r)) (inr (f, j, inr (o, inl g))) =
      some_inner frame d x k why (no_inner_in f d why (same_ip frame start wire f d j i) g)
  not_reach (suc n) start wire s why (d, i, inr (m, x, k, r)) (inr (f, j, inr (o, inr (y, l, q)))) =
      let e = same_ip frame start wire f d j i in
      let p = same_inner frame d y x (inner_in f d y e l) k in
      not_reach n x d.end s why r (lacks_in n f d y x why e p q)

  pub one_lack : (n : ℕ) (start : Start) (wire : ℕ) (why other : NoSegment)
      → ReachesNone n frame start wire why
      → ReachesNone n frame start wire other → why ≡ other
  unfolding ReachesNone
  one_lack zero start wire why other (inl h) (inl g) = one_ip frame start wire why other h g
  one_lack zero start wire why other (inl h) (inr (f, j, g)) =
      absurd (some_ip frame start wire f j why h)
  one_lack zero start wire why other (inr (d, i, h)) (inl g) =
      absurd (some_ip frame start wire d i other g)
  one_lack zero start wire why other (inr (d, i, inl h)) (inr (f, j, inl g)) =
      one_tcp frame d why other h.1 (no_tcp_in f d other (same_ip frame start wire f d j i) g.1)
  one_lack zero start wire why other (inr (d, i, inl h)) (inr (f, j, inr g)) =
      absurd (g.0 (six_in d f (same_ip frame start wire d f i j) h.0))
  one_lack zero start wire why other (inr (d, i, inr h)) (inr (f, j, inl g)) =
      absurd (h.0 (six_in f d (same_ip frame start wire f d j i) g.0))
  one_lack zero start wire why other (inr (d, i, inr h)) (inr (f, j, inr g)) = h.1 ∙ sym g.1
  one_lack (suc n) start wire why other (inl h) (inl g) = one_ip frame start wire why other h g
  one_lack (suc n) start wire why other (inl h) (inr (f, j, g)) =
      absurd (some_ip frame start wire f j why h)
  one_lack (suc n) start wire why other (inr (d, i, h)) (inl g) =
      absurd (some_ip frame start wire d i other g)
  one_lack (suc n) start wire why other (inr (d, i, inl h)) (inr (f, j, inl g)) =
      one_tcp frame d why other h.1 (no_tcp_in f d other (same_ip frame start wire f d j i) g.1)
  one_lack (suc n) start wire why other (inr (d, i, inl h)) (inr (f, j, inr g)) =
      absurd (g.0 (six_in d f (same_ip frame start wire d f i j) h.0))
  one_lack (suc n) start wire why other (inr (d, i, inr h)) (inr (f, j, inl g)) =
      absurd (h.0 (six_in f d (same_ip frame start wire f d j i) g.0))
  one_lack (suc n) start wire why other (inr (d, i, inr (m, inl h))) (inr (f, j, inr (o, inl g))) =
      one_inner frame d why other h (no_inner_in f d other (same_ip frame start wire f d j i) g)
  one_lack (suc n) start wire why other (inr (d, i, inr (m, inl h)))
      (inr (f, j, inr (o, inr (y, l, q)))) =
      absurd (some_inner frame d y (inner_in f d y (same_ip frame start wire f d j i) l) why h)
  one_lack (suc n) start wire why other (inr (d, i, inr (m, inr (x, k, r))))
      (inr (f, j, inr (o, inl g))) =
      absurd (some_inner frame d x k other
      (no_inner_in f d other (same_ip frame start wire f d j i) g))
  one_lack (suc n) start wire why other (inr (d, i, inr (m, inr (x, k, r))))
      (inr (f, j, inr (o, inr (y, l, q)))) =
      let e = same_ip frame start wire f d j i in
      let p = same_inner frame d y x (inner_in f d y e l) k in
      one_lack n x d.end why other r (lacks_in n f d y x other e p q)

  -- ---- steps
  pub reaches_tcp : (n : ℕ) (start : Start) (wire : ℕ) (d : Datagram) (s : Segment)
      → IsIp frame start wire d
      → d.protocol ≡ 6 → IsTcp frame d s → ReachesSegment n frame start wire s
  unfolding ReachesSegment
  reaches_tcp zero start wire d s i p h = (d, i, p, h)
  reaches_tcp (suc n) start wire d s i p h = (d, i, inl (p, h))

  pub reaches_inner : (n : ℕ) (start : Start) (wire : ℕ) (d : Datagram) (x : Start) (s : Segment)
      → n ≢ 0
      → IsIp frame start wire d → d.protocol ≢ 6 → IsInner frame d x
      → ReachesSegment (n - 1) frame x d.end s
      → ReachesSegment n frame start wire s
  unfolding ReachesSegment
  reaches_inner zero start wire d x s z i p k r = absurd (z refl)
  reaches_inner (suc n) start wire d x s z i p k r =
      let e : suc n - 1 ≡ n = omega arith in (d, i, inr (p, x, k, rw e at r))

  pub lacks_ip : (n : ℕ) (start : Start) (wire : ℕ) (why : NoSegment) → NoIp frame start wire why
      → ReachesNone n frame start wire why
  unfolding ReachesNone
  lacks_ip zero start wire why h = inl h
  lacks_ip (suc n) start wire why h = inl h

  pub lacks_tcp : (n : ℕ) (start : Start) (wire : ℕ) (d : Datagram) (why : NoSegment)
      → IsIp frame start wire d
      → d.protocol ≡ 6 → NoTcp frame d why → ReachesNone n frame start wire why
  unfolding ReachesNone
  lacks_tcp zero start wire d why i p h = inr (d, i, inl (p, h))
  lacks_tcp (suc n) start wire d why i p h = inr (d, i, inl (p, h))

  pub lacks_more : (n : ℕ) (start : Start) (wire : ℕ) (d : Datagram) → n ≡ 0
      → IsIp frame start wire d
      → d.protocol ≢ 6 → ReachesNone n frame start wire NotTcp
  unfolding ReachesNone
  lacks_more zero start wire d z i p = inr (d, i, inr (p, refl))
  lacks_more (suc n) start wire d z i p = absurd (omega arith)

  pub lacks_tunnel : (n : ℕ) (start : Start) (wire : ℕ) (d : Datagram) (why : NoSegment) → n ≢ 0
      → IsIp frame start wire d → d.protocol ≢ 6 → NoInner frame d why
      → ReachesNone n frame start wire why
  unfolding ReachesNone
  lacks_tunnel zero start wire d why z i p h = absurd (z refl)
  lacks_tunnel (suc n) start wire d why z i p h = inr (d, i, inr (p, inl h))

  pub lacks_inner : (n : ℕ) (start : Start) (wire : ℕ) (d : Datagram) (x : Start) (why : NoSegment)
      → n ≢ 0
      → IsIp frame start wire d → d.protocol ≢ 6 → IsInner frame d x
      → ReachesNone (n - 1) frame x d.end why
      → ReachesNone n frame start wire why
  unfolding ReachesNone
  lacks_inner zero start wire d x why z i p k r = absurd (z refl)
  lacks_inner (suc n) start wire d x why z i p k r =
      let e : suc n - 1 ≡ n = omega arith in inr (d, i, inr (p, inr (x, k, rw e at r)))

-- ---- whole frames
module _ (link : ℕ) (frame : List ℕ) (wire : ℕ) where
  pub same_segment : (s t : Segment) → IsSegment link frame wire s → IsSegment link frame wire t
      → s ≡ t
  same_segment s t (a, i, h) (b, j, g) =
      same_reach frame 4 a wire s t h
      (subst (λ (x : Start). ReachesSegment 4 frame x wire t) (same_start link frame b a j i) g)

  pub not_both : (s : Segment) (why : NoSegment) → IsSegment link frame wire s
      → LacksSegment link frame wire why → ⊥
  not_both s why (a, i, h) (inl g) = some_start link frame a i why g
  not_both s why (a, i, h) (inr (b, j, g)) =
      not_reach frame 4 a wire s why h
      (subst (λ (x : Start). ReachesNone 4 frame x wire why) (same_start link frame b a j i) g)

  pub one_reason : (why other : NoSegment) → LacksSegment link frame wire why
      → LacksSegment link frame wire other → why ≡ other
  one_reason why other (inl h) (inl g) = one_start link frame why other h g
  one_reason why other (inl h) (inr (b, j, g)) = absurd (some_start link frame b j why h)
  one_reason why other (inr (a, i, h)) (inl g) = absurd (some_start link frame a i other g)
  one_reason why other (inr (a, i, h)) (inr (b, j, g)) =
      one_lack frame 4 a wire why other h
      (subst (λ (x : Start). ReachesNone 4 frame x wire other) (same_start link frame b a j i) g)
