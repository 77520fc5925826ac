-- What came of packing streams, before the file has its name.
use Rattle.std.specs.Prelude.{ℕ, List, [], Ok, Err, Option, Some, ⊤}
use Rattle.capture3.specs.SidedChunks.{Streams}
use Rattle.capture3.specs.declared.fault.Error.TheVariants as errors
use Rattle.packing3.specs.Packing.{HasWrittenCapture}
use Rattle.program3.specs.Readings.{FileReading}
use Rattle.program3.specs.declared.outcome.Outcome.{Outcome}
use Rattle.program3.specs.declared.outcome.Outcome.TheVariants as outcomes
use Rattle.nfs3canon.specs.Files.{AreReadStreams, FailsToOpenLater, OneHasFailed, RefusesStreams}

-- all streams were read to their ends, and the capture of them is written to a file that was empty
abbrev pub WritesStreams : (holds : List ℕ → Option (List ℕ)) → List (List ℕ) → List FileReading
    → Option (List ℕ) → Type 0
WritesStreams holds names readings written = (pairs : List Streams)
    × AreReadStreams holds names readings pairs × HasWrittenCapture (Some []) written pairs

-- a stream was not opened that comes after those that were read, or streams were refused, or a read
-- failed, or a write, or memory ran out
abbrev pub StopsPacking : (holds : List ℕ → Option (List ℕ)) → List (List ℕ) → List FileReading
    → Outcome → Type 0
StopsPacking holds names readings (outcomes.Packed (Ok done)) = ⊥
StopsPacking holds names readings (outcomes.Packed (Err (errors.Refused fault))) =
    RefusesStreams holds readings fault
StopsPacking holds names readings (outcomes.Packed (Err errors.Read)) = OneHasFailed readings
StopsPacking holds names readings (outcomes.Packed (Err error)) = ⊤
StopsPacking holds names readings outcome = FailsToOpenLater names readings outcome
