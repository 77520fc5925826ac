-- The layout of an index: a head, the frames, what is said of each connection, and the connections.
-- Each number has its lowest octet first, and each of these parts a multiple of eight octets.
use Rattle.std.specs.Prelude.{ℕ, List, [], ◌∷◌, ◌++◌, length, replicate, Option, None, Some, codes, unwrap_or}
use Rattle.std.specs.List.{concat, flat_map}
use Rattle.connections3.specs.declared.ends.OneEnd.{OneEnd}
use Rattle.connections3.specs.declared.ends.OneEnd.TheVariants.{Lower, Higher}
use Rattle.conversion3.specs.declared.decisions.Decision.{Decision}
use Rattle.conversion3.specs.declared.decisions.Decision.TheVariants.{NotChosen, Empty, Whole, Flawed}
use Rattle.conversion3.specs.declared.ordered_connections.OrderedConnection.{OrderedConnection}
use Rattle.conversion3.specs.declared.ordered_connections.OrderedFlow.{OrderedFlow}
use Rattle.recording3.specs.declared.contents.Ending.{Ending}
use Rattle.recording3.specs.declared.contents.Ending.TheVariants as endings
use Rattle.recording3.specs.declared.frames.RecordingEnd.{RecordingEnd}
use Rattle.recording3.specs.declared.parts.Address.{Address}
use Rattle.recording3.specs.declared.parts.Address.TheVariants.{V4, V6}
use Rattle.recording3.specs.declared.parts.End.{End}
use Rattle.recording3.specs.declared.parts.NoSegment.{NoSegment}
use Rattle.recording3.specs.declared.parts.NoSegment.TheVariants as reasons
use Rattle.streams3.specs.declared.runs.Pair.{Pair}
use Rattle.streams3.specs.declared.runs.Run.{Run}
use Rattle.streams3.specs.declared.segments.Mark.{Mark}
use Rattle.streams3.specs.declared.segments.Marks.{Marks}
use Rattle.streams3.specs.Order.{Ordered}
use Rattle.index3.specs.Numbers.{long, short}
use Rattle.index3.specs.declared.frames.FrameRow.{FrameRow}
use Rattle.index3.specs.declared.index.Indexed.{Indexed}

-- ---- frames

-- 0 if there is a segment, else a number for why there is none
abbrev pub lack_code : Option NoSegment → ℕ
lack_code None = 0
lack_code (Some reasons.UnknownLink) = 1
lack_code (Some reasons.Cut) = 2
lack_code (Some reasons.NotIp) = 3
lack_code (Some reasons.BadIp) = 4
lack_code (Some reasons.Fragment) = 5
lack_code (Some reasons.NotTcp) = 6
lack_code (Some reasons.BadTcp) = 7

abbrev pub frame_bytes : FrameRow → List ℕ
frame_bytes f = concat (long f.time ∷ long f.at ∷ short f.size ∷ short f.wire ∷ short f.link
    ∷ short (lack_code f.lacks) ∷ [])

-- ---- what is said of a connection

abbrev pub decision_code : Decision → ℕ
decision_code NotChosen = 0
decision_code Empty = 1
decision_code Whole = 2
decision_code (Flawed flaw) = 3

abbrev pub decision_bytes : Decision → List ℕ
decision_bytes decision = long (decision_code decision)

-- ---- ends

-- an address in 16 octets, one of version 4 before twelve octets 0, and its version
abbrev pub address_bytes : Address → List ℕ
address_bytes (V4 octets) = octets ++ (replicate 12 0 ++ short 4)
address_bytes (V6 octets) = octets ++ short 6

abbrev pub end_bytes : End → List ℕ
end_bytes end = address_bytes end.address ++ short end.port

-- which end is the client
abbrev pub client_code : Option OneEnd → ℕ
client_code None = 0
client_code (Some Lower) = 1
client_code (Some Higher) = 2

-- ---- what an end sent

-- a position and its frame; both are 0 where there is none
abbrev pub mark_bytes : Option Mark → List ℕ
mark_bytes None = long 0 ++ long 0
mark_bytes (Some mark) = long mark.position ++ long mark.frame

-- where the stream begins and ends, up to where it was acknowledged, and where it was reset; how
-- many strays there are, and the frame of the first
abbrev pub marks_bytes : Marks → List ℕ
marks_bytes m = concat (mark_bytes m.begin ∷ mark_bytes m.end ∷ mark_bytes m.acknowledged
    ∷ mark_bytes m.reset ∷ long m.strays ∷ long (unwrap_or m.stray 0) ∷ [])

-- Fourteen numbers: whether the end sent something; the number of the byte at position 2^30; the
-- marks; and how many pairs and runs follow.
abbrev pub flow_head : Option OrderedFlow → List ℕ
flow_head None = replicate 112 0
flow_head (Some f) = concat (long 1 ∷ long f.numbers.first ∷ marks_bytes f.stream.marks
    ∷ long (length f.stream.pairs) ∷ long (length f.stream.runs) ∷ [])

-- bytes of the stream: their position, and where they lie
abbrev pub run_bytes : Run → List ℕ
run_bytes run =
    concat (long run.position ∷ long run.at ∷ short run.size ∷ short run.frame ∷ [])

-- bytes that came again: their position, where those lie that count, and where these
abbrev pub pair_bytes : Pair → List ℕ
pair_bytes pair = concat (long pair.again.position ∷ long pair.first.at ∷ long pair.again.at
    ∷ short pair.again.size ∷ short pair.again.frame ∷ [])

unfoldable pub stream_rows : Ordered → List ℕ
stream_rows stream = flat_map run_bytes stream.runs ++ flat_map pair_bytes stream.pairs

abbrev pub flow_rows : Option OrderedFlow → List ℕ
flow_rows None = []
flow_rows (Some f) = stream_rows f.stream

-- ---- connections

abbrev pub connection_head : OrderedConnection → List ℕ
connection_head c = concat (end_bytes c.ends.lower ∷ end_bytes c.ends.higher
    ∷ long (client_code c.client) ∷ flow_head c.lower ∷ flow_head c.higher ∷ [])

unfoldable pub connection_bytes : OrderedConnection → List ℕ
connection_bytes c = connection_head c ++ (flow_rows c.lower ++ flow_rows c.higher)

-- ---- all of it

-- why no more was read
abbrev pub ending_code : Ending → ℕ
ending_code endings.End = 0
ending_code endings.Cut = 1
ending_code endings.NotRecording = 2
ending_code endings.TooLong = 3
ending_code endings.BadOrder = 4
ending_code endings.BadSize = 5
ending_code endings.Unequal = 6
ending_code endings.TooShort = 7
ending_code endings.NoInterface = 8
ending_code endings.TooMany = 9

-- how many frames and connections follow, how many octets were read, and why no more were
abbrev pub index_head : RecordingEnd → (frames connections : ℕ) → List ℕ
index_head end frames connections = concat (codes "NFS3IDX1" ∷ long frames ∷ long connections
    ∷ long end.offset ∷ long (ending_code end.why) ∷ [])

-- what an index has of a recording: a row of each frame, and a decision on each connection
pub record Index : Type 0 where
  pub end : RecordingEnd
  pub frames : List FrameRow
  pub connections : List OrderedConnection
  pub decisions : List Decision

abbrev pub bytes_of_index : Index → List ℕ
bytes_of_index i = index_head i.end (length i.frames) (length i.connections)
    ++ (flat_map frame_bytes i.frames ++ (flat_map decision_bytes i.decisions
    ++ flat_map connection_bytes i.connections))

-- what contracts see of what is to be written
abbrev pub index_seen : Indexed → Index
index_seen i = record {
  end = i.end;
  frames = i.frames.now;
  connections = i.connections.now;
  decisions = i.decisions.now;
}
