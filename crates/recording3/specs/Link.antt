-- Headers of the link layer, by link type (www.tcpdump.org/linktypes.html).
use Rattle.std.specs.Prelude.{◌≡◌, ◌⊎◌, ℕ, zero, suc, ◌+◌, ◌%◌, ◌<◌, ◌≤◌, ◌==◌, ◌||◌, Bool, if◌then◌else◌, List, length, Option, Some, None}
use Rattle.recording3.specs.Octets.{octet, octets}
use Rattle.recording3.specs.Reasons.{When, Never}
use Rattle.recording3.specs.declared.link.Link.{Link}
use Rattle.recording3.specs.declared.link.Link.TheVariants.{Loopback, Ethernet, Raw, Cooked, Cooked2}
use Rattle.recording3.specs.declared.link.EtherType.{EtherType}
use Rattle.recording3.specs.declared.link.EtherType.TheVariants.{Ip, Labelled, Session, Unknown}
use Rattle.recording3.specs.declared.link.Placed.{Placed}
use Rattle.recording3.specs.declared.parts.IpVersion.{IpVersion}
use Rattle.recording3.specs.declared.parts.IpVersion.TheVariants.{Four, Six, Either}
use Rattle.recording3.specs.declared.parts.Start.{Start}
use Rattle.recording3.specs.declared.parts.NoSegment.{NoSegment}
use Rattle.recording3.specs.declared.parts.NoSegment.TheVariants.{UnknownLink, Cut, NotIp}

-- The numbers of the link types. That of raw IP is 101; 12 and 14 are what it has on some systems,
-- 228 and 229 are IPv4 and IPv6 alone.
abbrev pub link_of : ℕ → Option Link
link_of number =
    if number == 0 || number == 108 then Some Loopback else
    (if number == 1 then Some Ethernet else
    (if number == 12 || (number == 14 || (number == 101 || (number == 228 || number == 229)))
    then Some Raw else
    (if number == 113 then Some Cooked else
    (if number == 276 then Some Cooked2 else None))))

-- what an Ethernet type names: IP, MPLS (RFC 3032, section 5), a session of PPPoE (RFC 2516,
-- section 4)
abbrev pub ether_type_of : ℕ → EtherType
ether_type_of kind =
    if kind == 0x0800 then Ip Four else
    (if kind == 0x86dd then Ip Six else
    (if kind == 0x8847 then Labelled else
    (if kind == 0x8848 then Labelled else
    (if kind == 0x8864 then Session else Unknown))))

-- A stack of labels, of which so many do not have the bit S, and then one has it (RFC 3032, section
-- 2.1).
abbrev pub Labels : List ℕ → ℕ → (at end : ℕ) → Type 0
Labels frame zero at end = (at + 4 ≤ length frame) × (octet frame (at + 2) % 2 ≡ 1) × (end ≡ at + 4)
Labels frame (suc n) at end = (at + 4 ≤ length frame) × (octet frame (at + 2) % 2 ≡ 0)
    × Labels frame n (at + 4) end

-- a whole stack of labels
abbrev pub HasLabels : List ℕ → (at end : ℕ) → Type 0
HasLabels frame at end = (n : ℕ) × Labels frame n at end

-- the stack is cut short
abbrev pub CutAfter : List ℕ → ℕ → ℕ → Type 0
CutAfter frame zero at = length frame < at + 4
CutAfter frame (suc n) at =
    (at + 4 ≤ length frame) × (octet frame (at + 2) % 2 ≡ 0) × CutAfter frame n (at + 4)

-- a stack of labels that is cut short
abbrev pub NoLabels : List ℕ → ℕ → Type 0
NoLabels frame at = (n : ℕ) × CutAfter frame n at

-- the protocols of PPP (RFC 1332, section 2; RFC 5072, section 3)
abbrev pub ppp_version : ℕ → Option IpVersion
ppp_version protocol =
    if protocol == 0x0021 then Some Four else (if protocol == 0x0057 then Some Six else None)

-- the last two of the eight octets of a session are the protocol of PPP (RFC 2516, section 4)
pub record IsSession (frame : List ℕ) (at : ℕ) (start : Start) : Type 0 where
  pub whole : at + 8 ≤ length frame
  pub version : ppp_version (octets frame (at + 6) 2) ≡ Some start.version
  pub begin : start.at ≡ at + 8

-- where a datagram of IP begins in what an Ethernet type names
abbrev pub LeadsToIp : EtherType → List ℕ → ℕ → Start → Type 0
LeadsToIp (Ip version) frame at start = start ≡ record { version = version; at = at }
LeadsToIp Labelled frame at start = (start.version ≡ Either) × HasLabels frame at start.at
LeadsToIp Session frame at start = IsSession frame at start
LeadsToIp Unknown frame at start = ⊥

-- why none begins there
abbrev pub LeadsNowhere : EtherType → List ℕ → ℕ → NoSegment → Type 0
LeadsNowhere (Ip version) frame at = Never
LeadsNowhere Labelled frame at = When (NoLabels frame at) Cut Never
LeadsNowhere Session frame at =
    When (length frame < at + 8) Cut
    (When (ppp_version (octets frame (at + 6) 2) ≡ None) NotIp
    Never)
LeadsNowhere Unknown frame at = λ why. why ≡ NotIp

-- A type that is the identifier of a tag: of a customer or a service VLAN (IEEE 802.1Q, section
-- 9.5), or the one that was used for two tags before
abbrev pub is_tag : ℕ → Bool
is_tag kind = kind == 0x8100 || (kind == 0x88a8 || kind == 0x9100)

-- What stands behind a tag, if this is one: after its two octets comes the next type
unfoldable pub past_tag : List ℕ → Placed → Placed
past_tag frame p =
    if is_tag p.kind then record { kind = octets frame (p.at + 2) 2; at = p.at + 4 } else p

-- The type stands at a place of the header, or behind one or two tags. The datagram begins behind
-- the header and the tags, which are recorded.
abbrev pub innermost : ℕ → ℕ → List ℕ → Placed
innermost place size frame =
    past_tag frame (past_tag frame (record { kind = octets frame place 2; at = size }))

-- Where a datagram begins behind a header of so many octets with an Ethernet type at a place.
pub record IsTyped (place size : ℕ) (frame : List ℕ) (start : Start) : Type 0 where
  pub whole : (innermost place size frame).at ≤ length frame
  pub leads : LeadsToIp (ether_type_of (innermost place size frame).kind) frame
      (innermost place size frame).at start

-- why none begins there: the first of these reasons
abbrev pub NoTyped : ℕ → ℕ → List ℕ → NoSegment → Type 0
NoTyped place size frame =
    When (length frame < (innermost place size frame).at) Cut
    (LeadsNowhere (ether_type_of (innermost place size frame).kind) frame
    (innermost place size frame).at)

-- The header has no type that is read: the datagram itself says its version.
pub record IsUntyped (size : ℕ) (frame : List ℕ) (start : Start) : Type 0 where
  pub whole : size ≤ length frame
  pub version : start.version ≡ Either
  pub begin : start.at ≡ size

-- why none begins there
abbrev pub NoUntyped : ℕ → List ℕ → NoSegment → Type 0
NoUntyped size frame = When (length frame < size) Cut Never

-- where a datagram begins behind the header of a link layer
abbrev pub HasStart : Link → List ℕ → Start → Type 0
-- DLT_NULL, LINKTYPE_LOOP: four octets of a protocol family, in either byte order
HasStart Loopback = IsUntyped 4
-- two addresses of six octets each, and the type (IEEE 802.3)
HasStart Ethernet = IsTyped 12 14
-- raw IP: no header
HasStart Raw = IsUntyped 0
-- "Linux cooked", version 1: packet type, ARPHRD_ type, address length, address (8), and the type
HasStart Cooked = IsTyped 14 16
-- "Linux cooked", version 2: the type, reserved (2), interface (4), ARPHRD_ type (2), packet type,
-- address length, address (8)
HasStart Cooked2 = IsTyped 0 20

-- why none begins there, by link type
abbrev pub LacksStart : Link → List ℕ → NoSegment → Type 0
LacksStart Loopback = NoUntyped 4
LacksStart Ethernet = NoTyped 12 14
LacksStart Raw = NoUntyped 0
LacksStart Cooked = NoTyped 14 16
LacksStart Cooked2 = NoTyped 0 20

-- the same for the number of a link type
abbrev pub IsLinkStart : ℕ → List ℕ → Start → Type 0
IsLinkStart link frame start = (l : Link) × (link_of link ≡ Some l) × HasStart l frame start

-- why none begins there
abbrev pub NoLinkStart : ℕ → List ℕ → NoSegment → Type 0
NoLinkStart link frame why = ((link_of link ≡ None) × (why ≡ UnknownLink))
    ⊎ ((l : Link) × (link_of link ≡ Some l) × LacksStart l frame why)
