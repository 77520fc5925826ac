-- Tunnels: datagrams of IP that carry others.
use Rattle.std.specs.Prelude.{◌≡◌, ◌≢◌, ◌⊎◌, ℕ, ◌+◌, ◌*◌, ◌/◌, ◌%◌, ◌<◌, ◌≤◌, List, length}
use Rattle.recording3.specs.Link.{IsTyped, NoTyped, LeadsToIp, LeadsNowhere, ether_type_of}
use Rattle.recording3.specs.Octets.{octet, octets}
use Rattle.recording3.specs.Reasons.{When, Never}
use Rattle.recording3.specs.declared.link.Placed.{Placed}
use Rattle.recording3.specs.declared.parts.Datagram.{Datagram}
use Rattle.recording3.specs.declared.parts.NoSegment.{NoSegment}
use Rattle.recording3.specs.declared.parts.NoSegment.TheVariants.{Cut, NotTcp}
use Rattle.recording3.specs.declared.parts.Start.{Start}

-- one bit of the 16 that begin a header of GRE, the lowest is 0
abbrev pub bit : List ℕ → ℕ → ℕ → ℕ
bit frame at weight = octets frame at 2 / weight % 2

-- A header of GRE (RFC 2784, section 2): no routing (RFC 1701), version 0, and the Ethernet type of
-- the payload. A checksum, a key and a sequence number have four octets each, if their bits are 1
-- (RFC 2890).
pub record IsGre (frame : List ℕ) (at : ℕ) (p : Placed) : Type 0 where
  pub whole : at + 4 ≤ length frame
  pub unrouted : bit frame at 16384 ≡ 0
  pub version : octets frame at 2 % 8 ≡ 0
  pub kind : p.kind ≡ octets frame (at + 2) 2
  pub begin : p.at ≡ at + 4 + 4 * (bit frame at 32768 + bit frame at 8192 + bit frame at 4096)

-- why it is none that is read: the first of these reasons
abbrev pub NoGre : List ℕ → ℕ → NoSegment → Type 0
NoGre frame at =
    When (length frame < at + 4) Cut
    (When (bit frame at 16384 ≢ 0) NotTcp
    (When (octets frame at 2 % 8 ≢ 0) NotTcp
    Never))

-- A header of VXLAN behind one of UDP: its port, and the bit I (RFC 7348, section 5). Linux has
-- 8472. It carries Ethernet.
pub record IsVxlan (frame : List ℕ) (at : ℕ) (p : Placed) : Type 0 where
  pub port : (octets frame (at + 2) 2 ≡ 4789) ⊎ (octets frame (at + 2) 2 ≡ 8472)
  pub flag : octet frame (at + 8) / 8 % 2 ≡ 1
  pub kind : p.kind ≡ 0x6558
  pub begin : p.at ≡ at + 16

-- A header of Geneve behind one of UDP: its port, version 0, the length of its options in words,
-- and the type of what it carries (RFC 8926, sections 3.3 and 3.4).
pub record IsGeneve (frame : List ℕ) (at : ℕ) (p : Placed) : Type 0 where
  pub port : octets frame (at + 2) 2 ≡ 6081
  pub version : octet frame (at + 8) / 64 ≡ 0
  pub kind : p.kind ≡ octets frame (at + 10) 2
  pub begin : p.at ≡ at + 16 + 4 * (octet frame (at + 8) % 64)

-- a tunnel by UDP, whose header has eight octets (RFC 768)
abbrev pub IsUdpTunnel : List ℕ → ℕ → Placed → Type 0
IsUdpTunnel frame at p = (at + 16 ≤ length frame) × (IsVxlan frame at p ⊎ IsGeneve frame at p)

-- a port to which tunnels are sent
abbrev pub IsTunnelPort : ℕ → Type 0
IsTunnelPort port = (port ≡ 4789) ⊎ (port ≡ 8472) ⊎ (port ≡ 6081)

-- why it is none: the first of these reasons
abbrev pub NoUdpTunnel : List ℕ → ℕ → NoSegment → Type 0
NoUdpTunnel frame at =
    When (length frame < at + 8) Cut
    (When (IsTunnelPort (octets frame (at + 2) 2) → ⊥) NotTcp
    (When (length frame < at + 16) Cut
    (When ((p : Placed) → IsUdpTunnel frame at p → ⊥) NotTcp
    Never)))

-- What the datagram carries as a tunnel: IPv4 (RFC 2003), IPv6 (RFC 4213), GRE, or UDP with a
-- tunnel in it. An Ethernet type and where what it names begins.
abbrev pub IsTunnel : List ℕ → Datagram → Placed → Type 0
IsTunnel frame d p =
    ((d.protocol ≡ 4) × (p ≡ record { kind = 0x0800; at = d.begin }))
    ⊎ ((d.protocol ≡ 41) × (p ≡ record { kind = 0x86dd; at = d.begin }))
    ⊎ ((d.protocol ≡ 47) × IsGre frame d.begin p)
    ⊎ ((d.protocol ≡ 17) × IsUdpTunnel frame d.begin p)

-- why it carries nothing as a tunnel that is read
abbrev pub NoTunnel : List ℕ → Datagram → NoSegment → Type 0
NoTunnel frame d why =
    ((d.protocol ≢ 4) × (d.protocol ≢ 41) × (d.protocol ≢ 47) × (d.protocol ≢ 17) × (why ≡ NotTcp))
    ⊎ ((d.protocol ≡ 47) × NoGre frame d.begin why)
    ⊎ ((d.protocol ≡ 17) × NoUdpTunnel frame d.begin why)

-- where a datagram of IP begins in what a tunnel carries, if that has no header of Ethernet
pub record IsBare (frame : List ℕ) (p : Placed) (start : Start) : Type 0 where
  pub whole : p.at ≤ length frame
  pub leads : LeadsToIp (ether_type_of p.kind) frame p.at start

-- why none begins there: the first of these reasons
abbrev pub NoBare : List ℕ → Placed → NoSegment → Type 0
NoBare frame p =
    When (length frame < p.at) Cut
    (LeadsNowhere (ether_type_of p.kind) frame p.at)

-- Where the datagram in a tunnel begins: behind a header of Ethernet (0x6558), or at once.
abbrev pub IsInner : List ℕ → Datagram → Start → Type 0
IsInner frame d start = (p : Placed) × IsTunnel frame d p
    × (((p.kind ≡ 0x6558) × IsTyped (p.at + 12) (p.at + 14) frame start)
    ⊎ ((p.kind ≢ 0x6558) × IsBare frame p start))

-- why none begins there: the first layer that cannot be read has the reason
abbrev pub NoInner : List ℕ → Datagram → NoSegment → Type 0
NoInner frame d why = NoTunnel frame d why
    ⊎ ((p : Placed) × IsTunnel frame d p
    × (((p.kind ≡ 0x6558) × NoTyped (p.at + 12) (p.at + 14) frame why)
    ⊎ ((p.kind ≢ 0x6558) × NoBare frame p why)))
