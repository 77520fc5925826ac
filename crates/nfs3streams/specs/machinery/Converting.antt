-- How a recording is converted, step by step.
use Rattle.std.specs.Prelude.{◌≡◌, ◌⊎◌, ℕ, List, ◌∷◌, Option, Some, Err}
use Rattle.std.specs.Io.KnownBytes.{Appends}
use Rattle.capture3.specs.Observed.{Observed}
use Rattle.capture3.specs.SidedChunks.{Streams}
use Rattle.capture3.specs.declared.fault.Error.{Error}
use Rattle.capture3.specs.declared.fault.Error.TheVariants as errors
use Rattle.connections3.specs.declared.taker.NotTaken.{NotTaken}
use Rattle.conversion3.specs.Decisions.{AreDecided}
use Rattle.conversion3.specs.OrderedConnections.{AreOrdered}
use Rattle.conversion3.specs.Packing.{AreSentIn}
use Rattle.index3.specs.Frames.{AreRows}
use Rattle.index3.specs.Indexes.{Index, bytes_of_index}
use Rattle.index3.specs.declared.frames.FrameRow.{FrameRow}
use Rattle.packing3.specs.Packing.{HasWrittenCapture}
use Rattle.payload3.specs.Readings.{Allow, OffsetRead}
use Rattle.canon3.specs.WriteErrors.{IsOfWriting}
use Rattle.program3.specs.Files.{FinishesNone, WrittenFile}
use Rattle.program3.specs.declared.outcome.Outcome.{Outcome}
use Rattle.program3.specs.declared.outcome.Outcome.TheVariants as outcomes
use Rattle.program3.specs.declared.outcome.Report.{Report}
use Rattle.recording3.specs.Frames.{ReadsFrames}
use Rattle.recording3.specs.Outcomes.{Tallied}
use Rattle.recording3.specs.Places.{Passed}
use Rattle.recording3.specs.declared.frames.Failed.{Failed}
use Rattle.recording3.specs.declared.frames.Failed.TheVariants as failures
use Rattle.nfs3streams.specs.Conversion.{IsCaptureOf, IsFoundIn, ShowFrames, Writes}
use Rattle.nfs3streams.specs.Printed.{Findings, PrintsFindings}
use Rattle.nfs3streams.specs.Streams.{PrintsLimit, StopsWith}
use Rattle.nfs3streams.specs.declared.connections.RecordingRead.{RecordingRead}
use Rattle.nfs3streams.specs.declared.decided.Decided.{Decided}
use Rattle.nfs3streams.specs.declared.line.asked.StreamsJob.{StreamsJob}
use Rattle.nfs3streams.specs.declared.line.asked.Wanted.{Wanted}
use Rattle.nfs3streams.specs.declared.line.asked.Wanted.TheVariants as outputs

-- how many reads failed before and after: one more, if that is the error
abbrev pub CountsFailure : ℕ × ℕ → Error → Type 0
CountsFailure counts errors.Read = counts.0 ≡ 0 → counts.1 ≡ 1
CountsFailure counts _ = Unit {0}

-- ---- the frames of a recording

-- the rows are those of the frames, if an index is wanted
abbrev pub HaveRows : Wanted → List Passed → List FrameRow → Type 0
HaveRows outputs.Capture frames rows = Unit {0}
HaveRows outputs.Index frames rows = AreRows frames rows

-- what was read of frames
abbrev pub IsReadOf : Wanted → RecordingRead → List Passed → Type 0
IsReadOf wanted read frames = Tallied frames read.tally
    × ShowFrames read.connections.items frames × HaveRows wanted frames read.frames.items

-- a source was read to where its frames end, and this was read of them
abbrev pub ReadsConnections : Observed × Observed → Wanted → RecordingRead → Type 0
ReadsConnections source wanted read = ReadsFrames 0 source (IsReadOf wanted read) read.end

-- it has no header, or it is beyond a limit, or an error came
abbrev pub StopsAtStart : Observed × Observed → (counts : ℕ × ℕ) → Outcome → Type 0
StopsAtStart source counts outcome =
    StopsWith (λ end. ReadsFrames 0 source (λ frames. Unit {0}) end) (CountsFailure counts) outcome

-- the outcome names the limit, or the error
abbrev pub TellsFailed : Failed NotTaken → Outcome → Type 0
TellsFailed failed outcome = ((report : Report) × (outcome ≡ outcomes.Told report)
    × PrintsLimit report)
    ⊎ ((error : Error) × (outcome ≡ outcomes.Packed (Err error))
    × (error ≡ errors.Read → failed ≡ failures.Read))

-- ---- its connections

abbrev pub found_of : List Passed → RecordingRead → Decided → Findings
found_of frames read decided = record {
  frames = frames;
  end = read.end;
  tally = read.tally;
  connections = read.connections.items;
  decisions = decided.decisions.items;
}

-- they are in order, and in each file that the reads allow these are the decisions
pub record DecidesOn (read : RecordingRead) (ports : List ℕ) (readings : List OffsetRead)
    (decided : Decided) : Type 0 where
  pub end : decided.end ≡ read.end
  pub frames : decided.frames.items ≡ read.frames.items
  pub ordered : AreOrdered read.connections.items decided.connections.items
  pub prints : (frames : List Passed) → PrintsFindings (found_of frames read decided) decided.report
  pub are : (file : List ℕ) → Allow readings file
      → AreDecided file ports read.connections.items decided.decisions.items

-- ---- what is written of them

-- the capture of the whole ones is written
pub record WritesWhole (decided : Decided) (readings : List OffsetRead)
    (old new : Option (List ℕ)) : Type 0 where
  pub pairs : List Streams
  pub written : HasWrittenCapture old new pairs
  pub sent : AreSentIn readings decided.connections.items decided.decisions.items pairs

-- their index
abbrev pub index_in : Decided → Index
index_in decided = record {
  end = decided.end;
  frames = decided.frames.items;
  connections = decided.connections.items;
  decisions = decided.decisions.items;
}

-- to a sink
abbrev pub WritesInto : Wanted → Decided → List OffsetRead → (old new : Option (List ℕ)) → Type 0
WritesInto outputs.Capture decided readings old new = WritesWhole decided readings old new
WritesInto outputs.Index decided readings old new =
    Appends old new (bytes_of_index (index_in decided))

-- to an empty writer
abbrev pub WritesWanted : Wanted → Decided → List OffsetRead → (written : Option (List ℕ)) → Type 0
WritesWanted outputs.Capture decided readings written = (pairs : List Streams)
    × IsCaptureOf written pairs
    × AreSentIn readings decided.connections.items decided.decisions.items pairs
WritesWanted outputs.Index decided readings written =
    written ≡ Some (bytes_of_index (index_in decided))

-- ---- all of it

-- what was found in any file that is one of these is printed, and what is wanted of it is written
pub record ConvertsTo (IsOneOf : List ℕ → Type 0) (job : StreamsJob) (report : Report)
    (written : Option (List ℕ)) : Type 0 where
  pub found : Findings
  pub prints : PrintsFindings found report
  pub writes : Writes job.wanted IsOneOf found written
  pub is : (file : List ℕ) → IsOneOf file → IsFoundIn file job.ports.items found

-- ---- the file

-- The file was finished under the name, and the outcome is the report; or it was not, and the
-- outcome is an error of writing.
abbrev pub FinishesFile : (List ℕ × Option (List ℕ)) → List WrittenFile × List WrittenFile
    → Report → Outcome → Type 0
FinishesFile file finished report outcome =
    ((outcome ≡ outcomes.Told report)
    × (finished.1 ≡ record { name = file.0; bytes = file.1 } ∷ finished.0))
    ⊎ ((error : Error) × (outcome ≡ outcomes.Packed (Err error)) × IsOfWriting error
    × FinishesNone finished)
