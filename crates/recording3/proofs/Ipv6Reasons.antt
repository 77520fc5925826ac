-- Why no datagram of IPv6 begins at a place.
use Rattle.std.proofs.Common.{◌≡◌, ◌≢◌, ℕ, ◌+◌, ◌≤◌, ◌<◌, List, length, refl, inl, inr, arith}
use Rattle.recording3.specs.Ip.{Carries, EndsEarly, IsHeaders, NoIpv6, end_by_payload}
use Rattle.recording3.specs.Octets.{octet}
use Rattle.recording3.specs.declared.parts.NoSegment.TheVariants.{BadIp, Fragment}
use Rattle.recording3.proofs.ExtensionHeaders.{same_headers, headers_whole}

-- What stands behind the extension headers, and where: kind and begin. end is where the datagram
-- ends.
module _ (frame : List ℕ) (at wire kind begin end : ℕ) (whole : at + 40 ≤ length frame)
    (hs : IsHeaders frame (octet frame (at + 6)) (at + 40) kind begin)
    (e : end ≡ end_by_payload frame at wire) where
  pub ends_later : begin ≤ end → EndsEarly frame at wire → ⊥
  ends_later l h =
      let s : begin ≡ h.1 = (same_headers frame _ _ _ _ _ _ hs h.2).1 in let w = h.3 in omega arith

  pub carries_one : (k : ℕ) → kind ≢ k → Carries frame at k → ⊥
  carries_one k n h = n (same_headers frame _ _ _ _ _ _ hs h.1).0

  pub ends_early : end < begin → NoIpv6 frame at wire BadIp
  ends_early l =
      inr (
        λ h. omega arith,
        inr (headers_whole frame _ _ _ _ hs, inl ((kind, begin, hs, rw e at l), refl)),
      )

  pub ends_late : begin ≤ end → wire < end → NoIpv6 frame at wire BadIp
  ends_late b l =
      inr (
        λ h. omega arith,
        inr (headers_whole frame _ _ _ _ hs, inr (ends_later b, inl (rw e at l, refl))),
      )

  pub fragment : begin ≤ end → end ≤ wire → kind ≡ 44 → NoIpv6 frame at wire Fragment
  fragment b l k =
      inr (
        λ h. omega arith,
        inr (
          headers_whole frame _ _ _ _ hs,
          inr (ends_later b, inr (λ h. omega arith, inl ((begin, rw k at hs), refl))),
        ),
      )
