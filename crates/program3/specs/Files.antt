-- Files that a command reads and writes, and what came of it.
use Rattle.std.specs.Prelude.{◌≡◌, ◌⊎◌, ℕ, List, [], ◌∷◌, Option, Some, Result, Ok, Err}
use Rattle.std.specs.Io.KnownBytes.{Keeps}
use Rattle.line3.specs.declared.asked.LineFault.TheVariants as lines
use Rattle.capture3.specs.declared.fault.Error.{Error}
use Rattle.capture3.specs.declared.fault.Error.TheVariants as errors
use Rattle.capture3.specs.Entries.{OnRefused}
use Rattle.capture3.specs.Entry.{Entry}
use Rattle.capture3.specs.FirstFault.{FirstFault}
use Rattle.capture3.specs.Typed.{Typed}
use Rattle.canon3.specs.declared.summary.Summary.{Summary}
use Rattle.program3.specs.Opening.{IsOfName}
use Rattle.program3.specs.Readings.{IsByFailedRead, MayContain, FileReading}
use Rattle.program3.specs.declared.files.Made.{Made}
use Rattle.program3.specs.declared.outcome.Outcome.{Outcome}
use Rattle.program3.specs.declared.outcome.Outcome.TheVariants as outcomes

-- a file that was written whole, made safe, and given its name; and its bytes, if they are known
pub record WrittenFile : Type 0 where
  pub name : List ℕ
  pub bytes : Option (List ℕ)

-- nothing is written yet, and the file will get this name
abbrev pub IsNew : {W P : Type 0} → (W → Option (List ℕ)) → (P → List ℕ) → Made W P → List ℕ
    → Type 0
IsNew contents name_of made name = (contents made.file ≡ Some []) × (name_of made.place ≡ name)

-- one of the two could not be opened or made, or they are one file, or memory ran out
abbrev pub FailsToOpen : (input output : List ℕ) → Outcome → Type 0
FailsToOpen input output outcome = IsOfName input outcome ⊎ IsOfName output outcome
    ⊎ (outcome ≡ outcomes.Line lines.SameName)
    ⊎ (outcome ≡ outcomes.Counted (Err errors.Memory))

-- the file of this name could not be opened or made, or the output is a stream; or memory ran out
abbrev pub FailsToOpenStream : (stream : List ℕ) → Outcome → Type 0
FailsToOpenStream stream outcome = IsOfName stream outcome
    ⊎ (outcome ≡ outcomes.Line lines.SameName) ⊎ (outcome ≡ outcomes.Packed (Err errors.Memory))

-- the recording or the output could not be opened or made, or the recording is no regular file, or
-- they are one file; or memory ran out
abbrev pub FailsToOpenRecording : (recording output : List ℕ) → Outcome → Type 0
FailsToOpenRecording recording output outcome = IsOfName recording outcome
    ⊎ (outcome ≡ outcomes.Irregular) ⊎ FailsToOpenStream output outcome

-- the bytes that were gathered for a writer are written, and what came of the job stays, or a write
-- failed
abbrev pub WritesOut : {C : Type 0} → Result C Error → Option (List ℕ) → Result C Error
    → Option (List ℕ) → Type 0
WritesOut came gathered now written = (now ≡ Err errors.Write)
    ⊎ ((now ≡ came) × Keeps gathered written)

-- what a command did with files
pub record FilesRun : Type 0 where
  -- the bytes that files have by their names, where they are known
  pub holds : List ℕ → Option (List ℕ)
  -- what was read of files
  pub readings : List FileReading
  -- the files that were finished, before and after
  pub finished : List WrittenFile × List WrittenFile

abbrev pub files_run : {F : Type 0} → (F → List ℕ → Option (List ℕ)) → (F → List WrittenFile)
    → (old new : F) → List FileReading → FilesRun
files_run holds finished old new readings =
    record { holds = holds old; readings = readings; finished = (finished old, finished new) }

-- no file was finished
abbrev pub FinishesNone : List WrittenFile × List WrittenFile → Type 0
FinishesNone finished = finished.1 ≡ finished.0

-- nothing was read, and no file was finished
abbrev pub TouchesNone : FilesRun → Type 0
TouchesNone run = (run.readings ≡ []) × FinishesNone run.finished

-- The file of this name alone was read. Whatever it may contain, this holds of it; or a read
-- failed, if one did.
abbrev pub ReadsFile : {X : Type 0} → FilesRun → (name : List ℕ) → Result X Error
    → (List ℕ → Type 0) → Type 0
ReadsFile run name came Holds = (reading : FileReading) × (run.readings ≡ reading ∷ [])
    × (reading.name ≡ name) × IsByFailedRead reading came
    × ((bytes : List ℕ) → MayContain (run.holds name) reading bytes → Holds bytes)

-- What came of reading a capture of these bytes, and writing a form of its entries to a file of
-- this name. It succeeded: these are the capture's counts, and the one file that was finished has
-- the name, and its bytes are the form of all entries. Or no file was finished, and if the capture
-- was refused, this is its first fault.
module _ {C : Type 0} (AreCountsOf : List ℕ → C → Type 0) (form : List Entry → List ℕ) where
  abbrev pub KeepsForm : (name bytes : List ℕ) → List WrittenFile × List WrittenFile
      → Result C Error → Type 0
  KeepsForm name bytes finished (Ok counts) = (entries : List Entry) × Typed bytes entries
      × AreCountsOf bytes counts
      × (finished.1 ≡ record { name = name; bytes = Some (form entries) } ∷ finished.0)
  KeepsForm name bytes finished (Err error) =
      OnRefused {X = C} (Err error) (FirstFault bytes) × FinishesNone finished

-- The same of the file of the first name, which alone was read, and that of the second. Or nothing
-- was read and no file was finished, since one of the two was not opened or made.
abbrev pub RewritesFile : (List ℕ → Summary → Type 0) → (form : List Entry → List ℕ) → FilesRun
    → (names : List ℕ × List ℕ) → Outcome → Type 0
RewritesFile IsSummaryOf form run names (outcomes.Counted came) =
    ReadsFile run names.0 came
    (λ bytes. KeepsForm IsSummaryOf form names.1 bytes run.finished came)
    ⊎ (TouchesNone run × (came ≡ Err errors.Memory))
RewritesFile IsSummaryOf form run names outcome =
    FailsToOpen names.0 names.1 outcome × TouchesNone run
