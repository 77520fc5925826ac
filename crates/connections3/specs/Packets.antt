-- What is taken of the segments that frames carry.
use Rattle.std.specs.Prelude.{◌<◌, ℕ, ◌+◌, ◌-◌, ◌/◌, ◌%◌, ◌^◌, Bool, cond, ◌&&◌, ◌||◌, nat_eq, Option, None, Some}
use Rattle.recording3.specs.declared.frames.FrameHead.{FrameHead}
use Rattle.recording3.specs.declared.parts.Segment.{Segment}
use Rattle.streams3.specs.Events.{first_number}
use Rattle.streams3.specs.declared.segments.Acknowledgment.{Acknowledgment}
use Rattle.streams3.specs.declared.segments.StreamSegment.{StreamSegment}
use Rattle.connections3.specs.Ends.{ends_between, sender_between}
use Rattle.connections3.specs.declared.packets.Packet.{Packet}

-- a control bit is set: FIN is 1, SYN 2, RST 4, ACK 16 (RFC 9293, section 3.1)
abbrev pub has_flag : (flags bit : ℕ) → Bool
has_flag flags bit = nat_eq (flags / bit % 2) 1

-- How much is recorded of a payload. A segment with RST has none: its bytes say why, and are not of
-- the stream (RFC 1122, section 4.2.2.12).
abbrev pub payload_size : Segment → ℕ
payload_size s = cond (has_flag s.flags 4) 0 (s.end - s.begin)

-- the segment with what is recorded of its payload; FIN stands behind all of it
abbrev pub segment_of : FrameHead → Segment → StreamSegment
segment_of head s = record {
  sequence = s.sequence;
  size = payload_size s;
  at = head.at + s.begin;
  frame = head.number;
  syn = has_flag s.flags 2;
  fin = has_flag s.flags 1 && nat_eq s.missing 0;
  rst = has_flag s.flags 4;
}

-- the number behind a payload of which some is missing
abbrev pub cut_of : StreamSegment → (missing : ℕ) → Option Acknowledgment
cut_of s missing = cond (nat_eq missing 0 || s.rst) None (Some (record {
  number = (first_number s + s.size + missing) % 2 ^ 32;
  frame = s.frame;
}))

-- what a segment acknowledges
abbrev pub acknowledgment_of : Segment → (frame : ℕ) → Option Acknowledgment
acknowledgment_of s frame = cond (has_flag s.flags 16)
    (Some (record { number = s.acknowledged; frame = frame })) None

abbrev pub packet_of : FrameHead → Segment → Packet
packet_of head s = record {
  ends = ends_between s.source s.target;
  from = sender_between s.source s.target;
  segment = segment_of head s;
  cut = cut_of (segment_of head s) s.missing;
  acknowledgment = acknowledgment_of s head.number;
}

-- its numbers are in range
pub record HasPacket (head : FrameHead) (s : Segment) : Type 0 where
  pub number : head.number < 2 ^ 32
  pub size : s.end - s.begin < 2 ^ 32
  pub at : head.at + s.begin < 2 ^ 64
