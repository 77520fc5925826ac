-- The segment of TCP in the first frame of a recording.
use Rattle.std.specs.Prelude.{ℕ, ◌-◌, List, drop, take}
use Rattle.recording3.specs.Pcap.{IsFileHeader, IsFrame}
use Rattle.recording3.specs.Segments.{IsSegment}
use Rattle.recording3.specs.declared.parts.Segment.{Segment}
use Rattle.recording3.specs.declared.contents.Frame.{Frame}
use Rattle.recording3.specs.declared.pcap.Header.{Header}

-- the recorded octets of a frame
abbrev pub recorded_octets : List ℕ → Frame → List ℕ
recorded_octets file frame = take (frame.end - frame.begin) (drop frame.begin file)

-- The bytes have the header of a recording, and behind it a frame that carries the segment.
pub record CarriesFirst (file : List ℕ) (s : Segment) : Type 0 where
  pub header : Header
  pub frame : Frame
  pub begins : IsFileHeader file header
  pub first : IsFrame header file 24 frame
  pub carries : IsSegment header.link (recorded_octets file frame) frame.wire s
