-- The connections of the frames of a recording.
use Rattle.std.specs.Prelude.{◌≡◌, ◌⊎◌, ◌≤◌, ◌-◌, ◌^◌, List, [], ◌∷◌, ◌++◌}
use Rattle.recording3.specs.Outcomes.{Tallied, total}
use Rattle.recording3.specs.Places.{Passed}
use Rattle.recording3.specs.Segments.{IsSegment, LacksSegment}
use Rattle.recording3.specs.declared.parts.NoSegment.{NoSegment}
use Rattle.recording3.specs.declared.parts.Segment.{Segment}
use Rattle.connections3.specs.Connections.{ShowsPackets}
use Rattle.connections3.specs.Packets.{HasPacket, packet_of}
use Rattle.connections3.specs.declared.packets.Packet.{Packet}
use Rattle.connections3.specs.declared.taker.NotTaken.{NotTaken}
use Rattle.connections3.specs.declared.taker.NotTaken.TheVariants.{Memory, Long, TooMany}
use Rattle.connections3.specs.declared.taker.PacketTaker.{PacketTaker}

abbrev pub CarriesSegment : Passed → Segment → Type 0
CarriesSegment frame s = IsSegment frame.head.link frame.octets frame.head.wire s

-- the packets of a frame: that of its segment, or none if it has no segment
abbrev pub HasPackets : Passed → List Packet → Type 0
HasPackets frame packets =
    ((s : Segment) × CarriesSegment frame s × HasPacket frame.head s
    × (packets ≡ packet_of frame.head s ∷ []))
    ⊎ ((why : NoSegment) × LacksSegment frame.head.link frame.octets frame.head.wire why
    × (packets ≡ []))

-- those of frames, in their order
abbrev pub HavePackets : List Passed → List Packet → Type 0
HavePackets [] packets = packets ≡ []
HavePackets (frame ∷ frames) packets = (first : List Packet) × (later : List Packet)
    × HasPackets frame first × HavePackets frames later × (packets ≡ first ++ later)

-- a taker took exactly these frames
pub record ShowsFrames (taker : PacketTaker) (frames : List Passed) : Type 0 where
  pub packets : List Packet
  pub have : HavePackets frames packets
  pub shows : ShowsPackets taker.connections packets
  pub tallied : Tallied frames taker.tally

-- why it may not have taken a frame behind others: all are counted that can be, or the frame's
-- segment has no packet
abbrev pub IsOneTooMany : PacketTaker → Passed → Type 0
IsOneTooMany taker frame = (2 ^ 64 - 1 ≤ total taker.tally)
    ⊎ ((s : Segment) × CarriesSegment frame s × (HasPacket frame.head s → ⊥))

-- What is left of a taker that did not take a frame behind others. If a stream is too long, nothing
-- is known of the connections.
abbrev pub LeavesTaken : PacketTaker → NotTaken → List Passed → Passed → Type 0
LeavesTaken taker Memory frames frame = ShowsFrames taker frames
LeavesTaken taker Long frames frame = Tallied frames taker.tally
LeavesTaken taker TooMany frames frame = ShowsFrames taker frames × IsOneTooMany taker frame

-- it did not take the last of these frames
pub record HasNotTaken (taker : PacketTaker) (error : NotTaken) (frames : List Passed)
    : Type 0 where
  pub front : List Passed
  pub last : Passed
  pub split : frames ≡ front ++ last ∷ []
  pub leaves : LeavesTaken taker error front last
