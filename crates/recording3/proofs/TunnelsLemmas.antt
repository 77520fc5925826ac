-- A tunnel leads to one datagram.
use Rattle.std.proofs.Common.{◌≡◌, ◌≢◌, ◌⊎◌, ℕ, ◌+◌, ◌∙◌, inl, inr, sym, subst, List, arith}
use Rattle.recording3.specs.Link.{IsTyped, NoTyped, ether_type_of}
use Rattle.recording3.specs.Octets.{octets}
use Rattle.recording3.specs.Tunnels.{IsBare, IsGre, IsInner, IsTunnel, IsUdpTunnel, NoBare, NoGre, NoInner, NoTunnel, NoUdpTunnel, IsTunnelPort, IsVxlan, IsGeneve}
use Rattle.recording3.specs.declared.link.Placed.{Placed}
use Rattle.recording3.specs.declared.parts.Datagram.{Datagram}
use Rattle.recording3.specs.declared.parts.NoSegment.{NoSegment}
use Rattle.recording3.specs.declared.parts.Start.{Start}
use Rattle.recording3.proofs.LinkLemmas.{one_leads, one_typed, same_leads, same_typed, some_leads, some_typed}
use Rattle.recording3.proofs.ReasonsLemmas.{IsOne, IsNone, one, one_never, none, none_never}

same_placed : (p q : Placed) → p.kind ≡ q.kind → p.at ≡ q.at → p ≡ q
same_placed p q h g =
    let e : ◌≡◌ {A = Placed} (record { kind = p.kind; at = p.at })
    (record { kind = q.kind; at = q.at }) = cc in
    e

same_gre : (frame : List ℕ) (at : ℕ) (p q : Placed) → IsGre frame at p → IsGre frame at q → p ≡ q
same_gre frame at p q h g = same_placed p q (h.kind ∙ sym g.kind) (h.begin ∙ sym g.begin)

some_gre : (frame : List ℕ) (at : ℕ) (p : Placed) → IsGre frame at p → IsNone (NoGre frame at)
some_gre frame at p h =
    none _ _ _ (λ f. let w = h.whole in omega arith)
    (none _ _ _ (λ f. f h.unrouted) (none _ _ _ (λ f. f h.version) none_never))

one_gre : (frame : List ℕ) (at : ℕ) → IsOne (NoGre frame at)
one_gre frame at = one _ _ _ (one _ _ _ (one _ _ _ one_never))

same_udp : (frame : List ℕ) (at : ℕ) (p q : Placed) → IsUdpTunnel frame at p
    → IsUdpTunnel frame at q → p ≡ q
same_udp frame at p q (w, inl h) (v, inl g) =
    same_placed p q (h.kind ∙ sym g.kind) (h.begin ∙ sym g.begin)
same_udp frame at p q (w, inr h) (v, inr g) =
    same_placed p q (h.kind ∙ sym g.kind) (h.begin ∙ sym g.begin)
same_udp frame at p q (w, inl h) (v, inr g) =
    absurd (let a = h.port in let b = g.port in omega arith)
same_udp frame at p q (w, inr h) (v, inl g) =
    absurd (let a = h.port in let b = g.port in omega arith)

either_port : (port : ℕ) → (port ≡ 4789) ⊎ (port ≡ 8472) → IsTunnelPort port
either_port port (inl e) = inl e
either_port port (inr e) = inr (inl e)

to_tunnel_port : (frame : List ℕ) (at : ℕ) (p : Placed) → IsVxlan frame at p ⊎ IsGeneve frame at p
    → IsTunnelPort (octets frame (at + 2) 2)
to_tunnel_port frame at p (inl h) = either_port _ h.port
to_tunnel_port frame at p (inr h) = inr (inr h.port)

some_udp : (frame : List ℕ) (at : ℕ) (p : Placed) → IsUdpTunnel frame at p
    → IsNone (NoUdpTunnel frame at)
some_udp frame at p h =
    none _ _ _ (λ f. let w = h.0 in omega arith)
    (none _ _ _ (λ f. f (to_tunnel_port frame at p h.1))
    (none _ _ _ (λ f. let w = h.0 in omega arith) (none _ _ _ (λ f. f p h) none_never)))

one_udp : (frame : List ℕ) (at : ℕ) → IsOne (NoUdpTunnel frame at)
one_udp frame at = one _ _ _ (one _ _ _ (one _ _ _ (one _ _ _ one_never)))

same_tunnel : (frame : List ℕ) (d : Datagram) (p q : Placed) → IsTunnel frame d p
    → IsTunnel frame d q → p ≡ q
same_tunnel frame d p q (inl h) (inl g) = h.1 ∙ sym g.1
same_tunnel frame d p q (inl h) (inr (inl g)) = absurd (let a = h.0 in let b = g.0 in omega arith)
same_tunnel frame d p q (inl h) (inr (inr (inl g))) =
    absurd (let a = h.0 in let b = g.0 in omega arith)
same_tunnel frame d p q (inl h) (inr (inr (inr g))) =
    absurd (let a = h.0 in let b = g.0 in omega arith)
same_tunnel frame d p q (inr (inl h)) (inl g) = absurd (let a = h.0 in let b = g.0 in omega arith)
same_tunnel frame d p q (inr (inl h)) (inr (inl g)) = h.1 ∙ sym g.1
same_tunnel frame d p q (inr (inl h)) (inr (inr (inl g))) =
    absurd (let a = h.0 in let b = g.0 in omega arith)
same_tunnel frame d p q (inr (inl h)) (inr (inr (inr g))) =
    absurd (let a = h.0 in let b = g.0 in omega arith)
same_tunnel frame d p q (inr (inr (inl h))) (inl g) =
    absurd (let a = h.0 in let b = g.0 in omega arith)
same_tunnel frame d p q (inr (inr (inl h))) (inr (inl g)) =
    absurd (let a = h.0 in let b = g.0 in omega arith)
same_tunnel frame d p q (inr (inr (inl h))) (inr (inr (inl g))) = same_gre frame d.begin p q h.1 g.1
same_tunnel frame d p q (inr (inr (inl h))) (inr (inr (inr g))) =
    absurd (let a = h.0 in let b = g.0 in omega arith)
same_tunnel frame d p q (inr (inr (inr h))) (inl g) =
    absurd (let a = h.0 in let b = g.0 in omega arith)
same_tunnel frame d p q (inr (inr (inr h))) (inr (inl g)) =
    absurd (let a = h.0 in let b = g.0 in omega arith)
same_tunnel frame d p q (inr (inr (inr h))) (inr (inr (inl g))) =
    absurd (let a = h.0 in let b = g.0 in omega arith)
same_tunnel frame d p q (inr (inr (inr h))) (inr (inr (inr g))) = same_udp frame d.begin p q h.1 g.1

some_tunnel : (frame : List ℕ) (d : Datagram) (p : Placed) → IsTunnel frame d p
    → IsNone (NoTunnel frame d)
some_tunnel frame d p (inl h) why (inl g) = g.0 h.0
some_tunnel frame d p (inl h) why (inr (inl g)) = let a = h.0 in let b = g.0 in omega arith
some_tunnel frame d p (inl h) why (inr (inr g)) = let a = h.0 in let b = g.0 in omega arith
some_tunnel frame d p (inr (inl h)) why (inl g) = g.1 h.0
some_tunnel frame d p (inr (inl h)) why (inr (inl g)) = let a = h.0 in let b = g.0 in omega arith
some_tunnel frame d p (inr (inl h)) why (inr (inr g)) = let a = h.0 in let b = g.0 in omega arith
some_tunnel frame d p (inr (inr (inl h))) why (inl g) = g.2 h.0
some_tunnel frame d p (inr (inr (inl h))) why (inr (inl g)) = some_gre frame d.begin p h.1 why g.1
some_tunnel frame d p (inr (inr (inl h))) why (inr (inr g)) =
    let a = h.0 in let b = g.0 in omega arith
some_tunnel frame d p (inr (inr (inr h))) why (inl g) = g.3 h.0
some_tunnel frame d p (inr (inr (inr h))) why (inr (inl g)) =
    let a = h.0 in let b = g.0 in omega arith
some_tunnel frame d p (inr (inr (inr h))) why (inr (inr g)) = some_udp frame d.begin p h.1 why g.1

one_tunnel : (frame : List ℕ) (d : Datagram) → IsOne (NoTunnel frame d)
one_tunnel frame d why other (inl h) (inl g) = h.4 ∙ sym g.4
one_tunnel frame d why other (inl h) (inr (inl g)) = absurd (h.2 g.0)
one_tunnel frame d why other (inl h) (inr (inr g)) = absurd (h.3 g.0)
one_tunnel frame d why other (inr (inl h)) (inl g) = absurd (g.2 h.0)
one_tunnel frame d why other (inr (inl h)) (inr (inl g)) = one_gre frame d.begin why other h.1 g.1
one_tunnel frame d why other (inr (inl h)) (inr (inr g)) =
    absurd (let a = h.0 in let b = g.0 in omega arith)
one_tunnel frame d why other (inr (inr h)) (inl g) = absurd (g.3 h.0)
one_tunnel frame d why other (inr (inr h)) (inr (inl g)) =
    absurd (let a = h.0 in let b = g.0 in omega arith)
one_tunnel frame d why other (inr (inr h)) (inr (inr g)) = one_udp frame d.begin why other h.1 g.1

-- what stands in the tunnel
abbrev Within : List ℕ → Placed → Start → Type 0
Within frame p start = ((p.kind ≡ 0x6558) × IsTyped (p.at + 12) (p.at + 14) frame start)
    ⊎ ((p.kind ≢ 0x6558) × IsBare frame p start)

abbrev NotWithin : List ℕ → Placed → NoSegment → Type 0
NotWithin frame p why = ((p.kind ≡ 0x6558) × NoTyped (p.at + 12) (p.at + 14) frame why)
    ⊎ ((p.kind ≢ 0x6558) × NoBare frame p why)

same_within : (frame : List ℕ) (p : Placed) (s t : Start) → Within frame p s → Within frame p t
    → s ≡ t
same_within frame p s t (inl h) (inl g) = same_typed (p.at + 12) (p.at + 14) frame s t h.1 g.1
same_within frame p s t (inl h) (inr g) = absurd (g.0 h.0)
same_within frame p s t (inr h) (inl g) = absurd (h.0 g.0)
same_within frame p s t (inr (m, h)) (inr (n, g)) =
    same_leads (ether_type_of p.kind) frame p.at s t h.leads g.leads

some_within : (frame : List ℕ) (p : Placed) (s : Start) → Within frame p s
    → IsNone (NotWithin frame p)
some_within frame p s (inl h) why (inl g) = some_typed (p.at + 12) (p.at + 14) frame s h.1 why g.1
some_within frame p s (inl h) why (inr g) = absurd (g.0 h.0)
some_within frame p s (inr h) why (inl g) = absurd (h.0 g.0)
some_within frame p s (inr (m, h)) why (inr (n, g)) =
    none _ _ _ (λ f. let w = h.whole in omega arith)
    (some_leads (ether_type_of p.kind) frame p.at s h.leads) why g

one_within : (frame : List ℕ) (p : Placed) → IsOne (NotWithin frame p)
one_within frame p why other (inl h) (inl g) =
    one_typed (p.at + 12) (p.at + 14) frame why other h.1 g.1
one_within frame p why other (inl h) (inr g) = absurd (g.0 h.0)
one_within frame p why other (inr h) (inl g) = absurd (h.0 g.0)
one_within frame p why other (inr h) (inr g) =
    one _ _ _ (one_leads (ether_type_of p.kind) frame p.at) why other h.1 g.1

pub same_inner : (frame : List ℕ) (d : Datagram) (s t : Start) → IsInner frame d s
    → IsInner frame d t → s ≡ t
same_inner frame d s t (p, h, u) (q, g, v) =
    same_within frame p s t u
    (subst (λ (x : Placed). Within frame x t) (same_tunnel frame d q p g h) v)

pub some_inner : (frame : List ℕ) (d : Datagram) (s : Start) → IsInner frame d s
    → IsNone (NoInner frame d)
some_inner frame d s (p, h, u) why (inl g) = some_tunnel frame d p h why g
some_inner frame d s (p, h, u) why (inr (q, g, v)) =
    some_within frame p s u why
    (subst (λ (x : Placed). NotWithin frame x why) (same_tunnel frame d q p g h) v)

pub one_inner : (frame : List ℕ) (d : Datagram) → IsOne (NoInner frame d)
one_inner frame d why other (inl h) (inl g) = one_tunnel frame d why other h g
one_inner frame d why other (inl h) (inr (q, g, v)) = absurd (some_tunnel frame d q g why h)
one_inner frame d why other (inr (p, h, u)) (inl g) = absurd (some_tunnel frame d p h other g)
one_inner frame d why other (inr (p, h, u)) (inr (q, g, v)) =
    one_within frame p why other u
    (subst (λ (x : Placed). NotWithin frame x other) (same_tunnel frame d q p g h) v)
