-- Where the reading of a payload stands.
use Rattle.std.specs.Prelude.{◌≡◌, ◌≤◌, ◌<◌, ◌+◌, ℕ, true, List, ◌++◌, length, take, drop}
use Rattle.streams3.specs.declared.runs.Run.{Run}
use Rattle.streams3.specs.Content.{AreIn, content_of}
use Rattle.payload3.specs.declared.parts.RunPart.{RunPart}
use Rattle.payload3.specs.Readings.{Allow, LeavesPayload, PayloadReads}

-- what is still to be given: the rest of a run, and the runs that were not begun
abbrev pub payload_left : (file : List ℕ) → List Run → RunPart → List ℕ
payload_left file runs part =
    take part.left (drop part.at file) ++ content_of file (drop part.begun runs)

-- the runs that were begun lie in the file if what is left of the last one does
abbrev pub AreInSoFar : (file : List ℕ) → List Run → RunPart → Type 0
AreInSoFar file runs part =
    (0 < part.left → part.at + part.left ≤ length file) → AreIn file (take part.begun runs)

-- of each file that the reads allow this much is left, and nothing if the last read gave none
pub record StandsInRuns (reads : PayloadReads) (part : RunPart) : Type 0 where
  pub first : (file : List ℕ) → Allow reads.readings file
      → LeavesPayload reads file (payload_left file reads.runs part)
  pub within : (file : List ℕ) → Allow reads.readings file → AreInSoFar file reads.runs part
  pub spent : reads.is_spent ≡ true → (part.left ≡ 0) × (length reads.runs ≤ part.begun)
