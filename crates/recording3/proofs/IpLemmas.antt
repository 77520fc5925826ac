-- A datagram of IP is read in one way.
use Rattle.std.proofs.Common.{◌≡◌, ℕ, ◌<◌, ◌/◌, ◌∙◌, ◌⊎◌, inl, inr, sym, List, length, arith}
use Rattle.recording3.specs.Ip.{IsIp, IsIpv4, IsIpv6, NoIp, NoIpv4, NoIpv6}
use Rattle.recording3.specs.Octets.{octet}
use Rattle.recording3.specs.declared.parts.Datagram.{Datagram}
use Rattle.recording3.specs.declared.parts.NoSegment.{NoSegment}
use Rattle.recording3.specs.declared.parts.Start.{Start}
use Rattle.recording3.proofs.ExtensionHeaders.{same_headers, headers_whole}
use Rattle.recording3.proofs.Ipv6Reasons.{carries_one, ends_later}
use Rattle.recording3.proofs.ReasonsLemmas.{IsOne, IsNone, one, one_never, none, none_never}

same_parts : (d e : Datagram) → d.source ≡ e.source → d.target ≡ e.target → d.protocol ≡ e.protocol
    → d.begin ≡ e.begin → d.end ≡ e.end → d ≡ e
same_parts d e a b p c f =
    let q : ◌≡◌ {A = Datagram} (record {
      source = d.source;
      target = d.target;
      protocol = d.protocol;
      begin = d.begin;
      end = d.end;
    })
    (record {
      source = e.source;
      target = e.target;
      protocol = e.protocol;
      begin = e.begin;
      end = e.end;
    }) = cc in q

same_ipv4 : (frame : List ℕ) (at wire : ℕ) (d e : Datagram) → IsIpv4 frame at wire d
    → IsIpv4 frame at wire e → d ≡ e
same_ipv4 frame at wire d e h g =
    same_parts d e (h.source ∙ sym g.source) (h.target ∙ sym g.target) (h.protocol ∙ sym g.protocol)
    (h.begin ∙ sym g.begin) (h.end ∙ sym g.end)

same_ipv6 : (frame : List ℕ) (at wire : ℕ) (d e : Datagram) → IsIpv6 frame at wire d
    → IsIpv6 frame at wire e → d ≡ e
same_ipv6 frame at wire d e h g =
    let s = same_headers frame _ _ _ _ _ _ h.headers g.headers in
    same_parts d e (h.source ∙ sym g.source) (h.target ∙ sym g.target) s.0 s.1 (h.end ∙ sym g.end)

one_ipv4 : (frame : List ℕ) (at wire : ℕ) → IsOne (NoIpv4 frame at wire)
one_ipv4 frame at wire = one _ _ _ (one _ _ _ (one _ _ _ (one _ _ _ (one _ _ _ one_never))))

one_ipv6 : (frame : List ℕ) (at wire : ℕ) → IsOne (NoIpv6 frame at wire)
one_ipv6 frame at wire = one _ _ _ (one _ _ _ (one _ _ _ (one _ _ _ (one _ _ _ one_never))))

some_ipv4 : (frame : List ℕ) (at wire : ℕ) (d : Datagram) → IsIpv4 frame at wire d
    → IsNone (NoIpv4 frame at wire)
some_ipv4 frame at wire d h =
    none _ _ _ (λ f. omega arith) (none _ _ _ (λ f. omega arith) (none _ _ _ (λ f. omega arith)
    (none _ _ _ (λ f. omega arith) (none _ _ _ (λ f. f h.unfragmented) none_never))))

some_ipv6 : (frame : List ℕ) (at wire : ℕ) (d : Datagram) → IsIpv6 frame at wire d
    → IsNone (NoIpv6 frame at wire)
some_ipv6 frame at wire d h =
    none _ _ _ (λ f. omega arith) (none _ _ _ (headers_whole frame _ _ _ _ h.headers)
    (none
    _ _ _ (ends_later frame at wire d.protocol d.begin d.end h.whole h.headers h.end h.in_order)
    (none _ _ _ (λ f. omega arith)
    (none
    _ _ _ (carries_one frame at wire d.protocol d.begin d.end h.whole h.headers h.end 44
    h.unfragmented) none_never))))

pub same_ip : (frame : List ℕ) (start : Start) (wire : ℕ) (d e : Datagram) → IsIp frame start wire d
    → IsIp frame start wire e → d ≡ e
same_ip frame start wire d e (m, inl h) (n, inl g) = same_ipv4 frame start.at wire d e h g
same_ip frame start wire d e (m, inl h) (n, inr g) =
    absurd (let a = h.version in let b = g.version in omega arith)
same_ip frame start wire d e (m, inr h) (n, inl g) =
    absurd (let a = h.version in let b = g.version in omega arith)
same_ip frame start wire d e (m, inr h) (n, inr g) = same_ipv6 frame start.at wire d e h g

-- what both versions lack
abbrev NoEither : List ℕ → Start → ℕ → NoSegment → Type 0
NoEither frame start wire why = ((octet frame start.at / 16 ≡ 4) × NoIpv4 frame start.at wire why)
    ⊎ ((octet frame start.at / 16 ≡ 6) × NoIpv6 frame start.at wire why)

one_either : (frame : List ℕ) (start : Start) (wire : ℕ) → IsOne (NoEither frame start wire)
one_either frame start wire why other (inl h) (inl g) =
    one_ipv4 frame start.at wire why other h.1 g.1
one_either frame start wire why other (inl h) (inr g) =
    absurd (let a = h.0 in let b = g.0 in omega arith)
one_either frame start wire why other (inr h) (inl g) =
    absurd (let a = h.0 in let b = g.0 in omega arith)
one_either frame start wire why other (inr h) (inr g) =
    one_ipv6 frame start.at wire why other h.1 g.1

pub one_ip : (frame : List ℕ) (start : Start) (wire : ℕ) → IsOne (NoIp frame start wire)
one_ip frame start wire = one _ _ _ (one _ _ _ (one_either frame start wire))

some_either : (frame : List ℕ) (start : Start) (wire : ℕ) (d : Datagram)
    → (IsIpv4 frame start.at wire d ⊎ IsIpv6 frame start.at wire d)
    → IsNone (NoEither frame start wire)
some_either frame start wire d (inl h) why (inl g) = some_ipv4 frame start.at wire d h why g.1
some_either frame start wire d (inl h) why (inr g) = let a = h.version in let b = g.0 in omega arith
some_either frame start wire d (inr h) why (inl g) = let a = h.version in let b = g.0 in omega arith
some_either frame start wire d (inr h) why (inr g) = some_ipv6 frame start.at wire d h why g.1

whole : (frame : List ℕ) (at wire : ℕ) (d : Datagram)
    → (IsIpv4 frame at wire d ⊎ IsIpv6 frame at wire d) → at < length frame
whole frame at wire d (inl h) = let a = h.whole in omega arith
whole frame at wire d (inr h) = let a = h.whole in omega arith

pub some_ip : (frame : List ℕ) (start : Start) (wire : ℕ) (d : Datagram) → IsIp frame start wire d
    → IsNone (NoIp frame start wire)
some_ip frame start wire d h =
    let w = whole frame start.at wire d h.1 in
    none _ _ _ (λ f. omega arith) (none _ _ _ (λ f. f h.0) (some_either frame start wire d h.1))
