-- How a frame's outcome is taken.
use Rattle.std.specs.Prelude.{⊤, List, [], ◌∷◌, Result, Ok, Err}
use Rattle.recording3.specs.declared.frames.FrameHead.{FrameHead}
use Rattle.recording3.specs.declared.parts.NoSegment.{NoSegment}
use Rattle.recording3.specs.declared.parts.Segment.{Segment}
use Rattle.connections3.specs.Packets.{HasPacket, packet_of}
use Rattle.connections3.specs.declared.packets.Packet.{Packet}

-- the packets of an outcome, one or none
abbrev pub packets_in : FrameHead → Result Segment NoSegment → List Packet
packets_in head (Ok s) = packet_of head s ∷ []
packets_in head (Err why) = []

-- its segment has a packet
abbrev pub IsInRange : FrameHead → Result Segment NoSegment → Type 0
IsInRange head (Ok s) = HasPacket head s
IsInRange head (Err why) = ⊤
