-- A recording, its connections, what is said of each, and what is written of all.
use Rattle.std.specs.Prelude.{◌≡◌, ℕ, List, [], ◌++◌, Option, Some}
use Rattle.capture3.specs.Capture.{One, IsCapture}
use Rattle.capture3.specs.SidedChunks.{Streams}
use Rattle.connections3.specs.Connections.{ShowsPackets}
use Rattle.connections3.specs.Frames.{HavePackets}
use Rattle.connections3.specs.declared.connection.Connection.{Connection}
use Rattle.connections3.specs.declared.packets.Packet.{Packet}
use Rattle.conversion3.specs.Decisions.{AreDecided}
use Rattle.conversion3.specs.OrderedConnections.{AreOrdered}
use Rattle.conversion3.specs.Packing.{AreSent}
use Rattle.index3.specs.Frames.{AreRows}
use Rattle.index3.specs.Indexes.{Index, bytes_of_index}
use Rattle.payload3.specs.Readings.{Allow, RecordedReads}
use Rattle.program3.specs.Readings.{BeginsWithReads, FileReading}
use Rattle.recording3.specs.Frames.{ReadsRecording}
use Rattle.recording3.specs.Outcomes.{Tallied}
use Rattle.recording3.specs.Places.{MayGoOn, Passed}
use Rattle.recording3.specs.declared.frames.RecordingEnd.{RecordingEnd}
use Rattle.nfs3streams.specs.Printed.{Findings}
use Rattle.nfs3streams.specs.declared.line.asked.Wanted.{Wanted}
use Rattle.nfs3streams.specs.declared.line.asked.Wanted.TheVariants as outputs

-- what the reads of a recording gave: those from its start on, one after another, and those at
-- other offsets
pub record RecordingReading : Type 0 where
  pub start : FileReading
  pub others : RecordedReads

-- By all that its reads gave, the recording may have these bytes. It does not change between reads.
pub record MayHave (reading : RecordingReading) (file : List ℕ) : Type 0 where
  pub start : BeginsWithReads reading.start file
  pub others : Allow reading.others.readings file

-- The frames of a recording, and where it ends, which is the end of the file if more bytes could
-- change that.
pub record HasFrames (file : List ℕ) (frames : List Passed) (end : RecordingEnd) : Type 0 where
  pub front : List ℕ
  pub rest : List ℕ
  pub split : file ≡ front ++ rest
  pub reads : ReadsRecording 0 front frames end
  pub all : MayGoOn end.why → rest ≡ []

-- connections show exactly the packets of these frames
pub record ShowFrames (connections : List Connection) (frames : List Passed) : Type 0 where
  pub packets : List Packet
  pub have : HavePackets frames packets
  pub shows : ShowsPackets connections packets

-- This was found in a recording with these bytes: its frames, how they end and what they carry,
-- their connections, and a decision on each.
pub record IsFoundIn (file ports : List ℕ) (found : Findings) : Type 0 where
  pub has : HasFrames file found.frames found.end
  pub tallied : Tallied found.frames found.tally
  pub show : ShowFrames found.connections found.frames
  pub decided : AreDecided file ports found.connections found.decisions

-- ---- what is written of it

-- a capture of the pairs was written
pub record IsCaptureOf (written : Option (List ℕ)) (pairs : List Streams) : Type 0 where
  pub capture : List ℕ
  pub is : written ≡ Some capture
  pub of : IsCapture One capture pairs

-- A capture was written. Whichever of these files the recording is, its pairs are what was sent on
-- the whole connections, in order.
pub record WritesCapture (IsOneOf : List ℕ → Type 0) (found : Findings)
    (written : Option (List ℕ)) : Type 0 where
  pub pairs : List Streams
  pub capture : IsCaptureOf written pairs
  pub sent : (file : List ℕ) → IsOneOf file
      → AreSent file found.connections found.decisions pairs

-- The index was written: the end, a row of each frame, the connections in order, and the decisions.
pub record WritesIndex (found : Findings) (written : Option (List ℕ)) : Type 0 where
  pub index : Index
  pub is : written ≡ Some (bytes_of_index index)
  pub end : index.end ≡ found.end
  pub frames : AreRows found.frames index.frames
  pub connections : AreOrdered found.connections index.connections
  pub decisions : index.decisions ≡ found.decisions

abbrev pub Writes : Wanted → (IsOneOf : List ℕ → Type 0) → Findings → Option (List ℕ) → Type 0
Writes outputs.Capture IsOneOf found written = WritesCapture IsOneOf found written
Writes outputs.Index IsOneOf found written = WritesIndex found written
