-- Segments of TCP (RFC 9293, section 3.1).
use Rattle.std.specs.Prelude.{◌≡◌, ℕ, ◌+◌, ◌-◌, ◌*◌, ◌/◌, ◌<◌, ◌≤◌, min, max, List, length}
use Rattle.recording3.specs.Octets.{octet, octets}
use Rattle.recording3.specs.Reasons.{When, Never}
use Rattle.recording3.specs.declared.parts.Datagram.{Datagram}
use Rattle.recording3.specs.declared.parts.NoSegment.{NoSegment}
use Rattle.recording3.specs.declared.parts.NoSegment.TheVariants.{Cut, BadTcp}
use Rattle.recording3.specs.declared.parts.Segment.{Segment}

-- Data Offset: how many octets the header has with its options. It counts words of 32 bits
abbrev pub tcp_header_size : List ℕ → ℕ → ℕ
tcp_header_size frame at = octet frame (at + 12) / 16 * 4

-- where the recorded part of the datagram ends
abbrev pub recorded_end : List ℕ → Datagram → ℕ
recorded_end frame d = min d.end (length frame)

-- The segment is the one that the datagram carries, whose header begins at d.begin (RFC 9293,
-- section 3.1). The options may be cut, and the payload.
pub record IsTcp (frame : List ℕ) (d : Datagram) (s : Segment) : Type 0 where
  -- the header without options is within the datagram, and recorded
  pub within : d.begin + 20 ≤ d.end
  pub whole : d.begin + 20 ≤ length frame
  -- Data Offset
  pub least : 20 ≤ tcp_header_size frame d.begin
  pub fits : d.begin + tcp_header_size frame d.begin ≤ d.end
  -- Source Port, Destination Port, Sequence Number, Acknowledgment Number, Control bits
  pub source_port : s.source.port ≡ octets frame d.begin 2
  pub target_port : s.target.port ≡ octets frame (d.begin + 2) 2
  pub sequence : s.sequence ≡ octets frame (d.begin + 4) 4
  pub acknowledged : s.acknowledged ≡ octets frame (d.begin + 8) 4
  pub flags : s.flags ≡ octet frame (d.begin + 13)
  -- the addresses are those of the datagram
  pub source : s.source.address ≡ d.source
  pub target : s.target.address ≡ d.target
  -- The payload: what follows the header and is recorded; of the rest there is the size. A header
  -- of 20 octets at 34 in a datagram that ends at 74: if 60 octets are recorded, the payload is
  -- those from 54 to 60, and 14 are missing; if 54 are recorded, it is none, and 20 are missing.
  pub begin : s.begin ≡ min (d.begin + tcp_header_size frame d.begin) (recorded_end frame d)
  pub end : s.end ≡ recorded_end frame d
  pub missing : s.missing
      ≡ d.end - max (d.begin + tcp_header_size frame d.begin) (recorded_end frame d)

-- why the datagram carries no segment that can be read: the first of these
abbrev pub NoTcp : List ℕ → Datagram → NoSegment → Type 0
NoTcp frame d =
    When (d.end < d.begin + 20) BadTcp
    (When (length frame < d.begin + 20) Cut
    (When (tcp_header_size frame d.begin < 20) BadTcp
    (When (d.end < d.begin + tcp_header_size frame d.begin) BadTcp
    Never)))
