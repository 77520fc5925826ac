-- Datagrams of IP: version 4 (RFC 791, section 3.1) and version 6 (RFC 8200, section 3).
use Rattle.std.specs.Prelude.{◌≡◌, ◌≢◌, ◌⊎◌, ℕ, zero, suc, ◌+◌, ◌*◌, ◌/◌, ◌%◌, ◌<◌, ◌≤◌, ◌==◌, ◌||◌, Bool, true, false, if◌then◌else◌, List, length, take, drop}
use Rattle.recording3.specs.Octets.{octet, octets}
use Rattle.recording3.specs.Reasons.{When, Never}
use Rattle.recording3.specs.declared.parts.Address.TheVariants.{V4, V6}
use Rattle.recording3.specs.declared.parts.Datagram.{Datagram}
use Rattle.recording3.specs.declared.parts.NoSegment.{NoSegment}
use Rattle.recording3.specs.declared.parts.NoSegment.TheVariants.{Cut, NotIp, BadIp, Fragment}
use Rattle.recording3.specs.declared.parts.Start.{Start}
use Rattle.recording3.specs.declared.parts.IpVersion.{IpVersion}
use Rattle.recording3.specs.declared.parts.IpVersion.TheVariants.{Four, Six, Either}

-- Where a datagram ends: a length in its header counts from a place on. A length of 0 is written
-- where a network card is to divide a long datagram later, which ends with the frame.
abbrev pub datagram_end : ℕ → ℕ → ℕ → ℕ
datagram_end size begin wire = if size == 0 then wire else begin + size

-- IHL, the Internet Header Length: it counts words of 32 bits (RFC 791, section 3.1)
abbrev pub ipv4_header_size : List ℕ → ℕ → ℕ
ipv4_header_size frame at = octet frame at % 16 * 4

-- Total Length, of header and data (RFC 791, section 3.1)
abbrev pub end_by_total : List ℕ → ℕ → ℕ → ℕ
end_by_total frame at wire = datagram_end (octets frame (at + 2) 2) at wire

-- A datagram of IPv4 begins at an octet of the frame, whose length on the wire is given (RFC 791,
-- section 3.1). It is no fragment.
pub record IsIpv4 (frame : List ℕ) (at wire : ℕ) (d : Datagram) : Type 0 where
  -- the header without options is recorded
  pub whole : at + 20 ≤ length frame
  -- Version, IHL, Total Length
  pub version : octet frame at / 16 ≡ 4
  pub least : 20 ≤ ipv4_header_size frame at
  pub begin : d.begin ≡ at + ipv4_header_size frame at
  pub end : d.end ≡ end_by_total frame at wire
  pub in_order : d.begin ≤ d.end
  pub in_frame : d.end ≤ wire
  -- the lower 14 bits of the fourth word: More Fragments, and Fragment Offset
  pub unfragmented : octets frame (at + 6) 2 % 16384 ≡ 0
  -- Protocol
  pub protocol : d.protocol ≡ octet frame (at + 9)
  -- Source Address, Destination Address
  pub source : d.source ≡ V4 (take 4 (drop (at + 12) frame))
  pub target : d.target ≡ V4 (take 4 (drop (at + 16) frame))

-- why there is no such datagram: the first of these reasons
abbrev pub NoIpv4 : List ℕ → ℕ → ℕ → NoSegment → Type 0
NoIpv4 frame at wire =
    When (length frame < at + 20) Cut
    (When (ipv4_header_size frame at < 20) BadIp
    (When (end_by_total frame at wire < at + ipv4_header_size frame at) BadIp
    (When (wire < end_by_total frame at wire) BadIp
    (When (octets frame (at + 6) 2 % 16384 ≢ 0) Fragment
    Never))))

-- the extension headers of which each says its own length: Hop-by-Hop Options, Routing, Destination
-- Options (RFC 8200, sections 4.3, 4.4 and 4.6)
abbrev pub is_extension : ℕ → Bool
is_extension kind = kind == 0 || (kind == 43 || kind == 60)

-- So many extension headers stand one after another from a place on, of which the first is of a
-- kind. What follows the last is of another kind, and begins at another place. Each has the kind of
-- the next, and then its own length in units of eight octets, without the first eight (RFC 8200,
-- section 4).
abbrev pub Headers : List ℕ → ℕ → (kind at last end : ℕ) → Type 0
Headers frame zero kind at last end = (last ≡ kind) × (end ≡ at)
Headers frame (suc n) kind at last end = (is_extension kind ≡ true) × (at + 2 ≤ length frame)
    × Headers frame n (octet frame at) (at + 8 * (octet frame (at + 1) + 1)) last end

-- all extension headers
abbrev pub IsHeaders : List ℕ → (kind at last end : ℕ) → Type 0
IsHeaders frame kind at last end =
    (n : ℕ) × Headers frame n kind at last end × (is_extension last ≡ false)

-- one of the extension headers is cut short
abbrev pub NoHeaders : List ℕ → (kind at : ℕ) → Type 0
NoHeaders frame kind at = (n : ℕ) × (last : ℕ) × (end : ℕ) × Headers frame n kind at last end
    × (is_extension last ≡ true) × (length frame < end + 2)

-- Payload Length: what follows the header, with the extension headers (RFC 8200, section 3)
abbrev pub end_by_payload : List ℕ → ℕ → ℕ → ℕ
end_by_payload frame at wire = datagram_end (octets frame (at + 4) 2) (at + 40) wire

-- a datagram of IPv6 that is no fragment (RFC 8200, section 3)
pub record IsIpv6 (frame : List ℕ) (at wire : ℕ) (d : Datagram) : Type 0 where
  -- the header is recorded
  pub whole : at + 40 ≤ length frame
  pub version : octet frame at / 16 ≡ 6
  -- Next Header, and the extension headers, none of which is a Fragment header (RFC 8200, section
  -- 4.5)
  pub headers : IsHeaders frame (octet frame (at + 6)) (at + 40) d.protocol d.begin
  pub unfragmented : d.protocol ≢ 44
  pub end : d.end ≡ end_by_payload frame at wire
  pub in_order : d.begin ≤ d.end
  pub in_frame : d.end ≤ wire
  -- Source Address, Destination Address
  pub source : d.source ≡ V6 (take 16 (drop (at + 8) frame))
  pub target : d.target ≡ V6 (take 16 (drop (at + 24) frame))

-- the extension headers end behind the datagram
abbrev pub EndsEarly : List ℕ → ℕ → ℕ → Type 0
EndsEarly frame at wire = (last : ℕ) × (begin : ℕ)
    × IsHeaders frame (octet frame (at + 6)) (at + 40) last begin
    × (end_by_payload frame at wire < begin)

-- behind the extension headers stands this
abbrev pub Carries : List ℕ → ℕ → ℕ → Type 0
Carries frame at last = (begin : ℕ) × IsHeaders frame (octet frame (at + 6)) (at + 40) last begin

-- why there is no such datagram: the first of these reasons
abbrev pub NoIpv6 : List ℕ → ℕ → ℕ → NoSegment → Type 0
NoIpv6 frame at wire =
    When (length frame < at + 40) Cut
    (When (NoHeaders frame (octet frame (at + 6)) (at + 40)) Cut
    (When (EndsEarly frame at wire) BadIp
    (When (wire < end_by_payload frame at wire) BadIp
    (When (Carries frame at 44) Fragment
    Never))))

-- the versions that may stand behind the link layer
abbrev pub MayBe : IpVersion → ℕ → Type 0
MayBe Four number = number ≡ 4
MayBe Six number = number ≡ 6
MayBe Either number = (number ≡ 4) ⊎ (number ≡ 6)

-- The first four bits are the version (RFC 791, section 3.1; RFC 8200, section 3).
abbrev pub IsIp : List ℕ → Start → ℕ → Datagram → Type 0
IsIp frame start wire d = MayBe start.version (octet frame start.at / 16)
    × (IsIpv4 frame start.at wire d ⊎ IsIpv6 frame start.at wire d)

-- why no datagram of either version begins there: the first of these reasons
abbrev pub NoIp : List ℕ → Start → ℕ → NoSegment → Type 0
NoIp frame start wire =
    When (length frame ≤ start.at) Cut
    (When (MayBe start.version (octet frame start.at / 16) → ⊥) NotIp
    (λ why. ((octet frame start.at / 16 ≡ 4) × NoIpv4 frame start.at wire why)
    ⊎ ((octet frame start.at / 16 ≡ 6) × NoIpv6 frame start.at wire why)))
