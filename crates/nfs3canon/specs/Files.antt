-- What came of a job, by what was read of its files.
use Rattle.std.specs.Prelude.{◌≡◌, ◌≢◌, ◌≤◌, ◌⊎◌, ℕ, true, List, [], ◌∷◌, ◌++◌, length, map, Any, IfErr, IfSome, Option, Some, Ok, Err, ⊤}
use Rattle.capture3.specs.declared.fault.Error.TheVariants as errors
use Rattle.capture3.specs.declared.fault.Fault.{Fault}
use Rattle.capture3.specs.Capture.{One, IsCapture, max_connections, total_size}
use Rattle.capture3.specs.Chunks.{max_bytes}
use Rattle.capture3.specs.SidedChunks.{Streams}
use Rattle.canon3.specs.Comparison.{CountsReadingOf, DecidesSame, of_bytes}
use Rattle.canon3.specs.EntryWriter.{WritesAllCounted}
use Rattle.canon3.specs.Summary.{AreMessageCounts, ConcludesAll}
use Rattle.canon3.specs.declared.comparison.verdict.Which.{Which}
use Rattle.canon3.specs.declared.comparison.verdict.Which.TheVariants.{First, Second}
use Rattle.listing3.specs.Listing.{shown}
use Rattle.packing3.specs.Packed.{IsPacked}
use Rattle.packing3.specs.Stopped.{BreaksOff, HasNoRoom}
use Rattle.program3.specs.Files.{FailsToOpenStream, FilesRun, FinishesNone, ReadsFile, TouchesNone}
use Rattle.program3.specs.Opening.{IsOfName}
use Rattle.program3.specs.Readings.{FileReading, MayContain}
use Rattle.program3.specs.declared.outcome.Outcome.{Outcome}
use Rattle.program3.specs.declared.outcome.Outcome.TheVariants as outcomes

-- standard output, or another writer, before a command, and what came back of it
pub record WriterRun (W : Type 0) : Type 0 where
  pub contents : W → Option (List ℕ)
  pub before : W
  pub after : Option W

module _ (run : FilesRun) where
  -- The file of this name alone was read. Whatever it may contain, this is its summary, or its
  -- first fault; or a read failed, if one did. Or nothing was read, since memory ran out or the
  -- file was not opened.
  abbrev pub CountsFile : (name : List ℕ) → Outcome → Type 0
  CountsFile name (outcomes.Counted came) =
      (ReadsFile run name came (λ bytes. ConcludesAll bytes came)
      × IfErr came (λ error. error ≢ errors.Write))
      ⊎ ((run.readings ≡ []) × (came ≡ Err errors.Memory))
  CountsFile name outcome = IsOfName name outcome × (run.readings ≡ [])

  -- The files of these names were read. Whatever they may contain, the verdict, or the refusal, is
  -- that of the two; or a read of one failed, if one did. Or nothing was read, since memory ran out
  -- or one of them was not opened.
  abbrev pub ComparesFiles : (first second : List ℕ) → Outcome → Type 0
  ComparesFiles first second (outcomes.Compared came) =
      ((one : FileReading) × (other : FileReading) × (run.readings ≡ one ∷ other ∷ [])
      × (one.name ≡ first)
      × (other.name ≡ second) × CountsReadingOf First 0 one.failures came
      × CountsReadingOf Second 0 other.failures came
      × IfErr came (λ error. error.error ≢ errors.Write)
      × ((file others : List ℕ) → MayContain (run.holds first) one file
      → MayContain (run.holds second) other others
      → DecidesSame (of_bytes file) (of_bytes others) came))
      ⊎ ((run.readings ≡ [])
      × ((which : Which) × (came ≡ Err (record { which = which; error = errors.Memory }))))
  ComparesFiles first second outcome =
      (IsOfName first outcome ⊎ IsOfName second outcome) × (run.readings ≡ [])

  -- What came of listing a file to a writer, which comes back. The file alone was read. Whatever it
  -- may contain, the lines of all its messages are written, or of those before its first fault; or
  -- a read failed, if one did, or a write, or memory ran out. Or nothing is read and nothing
  -- written, since memory ran out or the file was not opened. Without room for what is gathered
  -- before it is written, the writer is given up, and nothing is read.
  abbrev pub ListsFile : {W : Type 0} → WriterRun W → (name : List ℕ) → Outcome → Type 0
  ListsFile {W = W} output name (outcomes.Listed came) =
      ((new : W) × (output.after ≡ Some new) × ReadsFile run name came
      (λ bytes. WritesAllCounted AreMessageCounts shown bytes
      (output.contents output.before, output.contents new) came))
      ⊎ ((run.readings ≡ []) × (came ≡ Err errors.Memory)
      × IfSome output.after (λ new. new ≡ output.before))
  ListsFile output name outcome =
      IsOfName name outcome × (run.readings ≡ []) × (output.after ≡ Some output.before)

-- the file of this name was read to its end, and these are its bytes
pub record IsReadWhole (holds : List ℕ → Option (List ℕ)) (reading : FileReading)
    (name bytes : List ℕ) :
    Type 0 where
  pub named : reading.name ≡ name
  pub given : reading.given ≡ bytes
  pub spent : reading.is_spent ≡ true
  pub held : (content : List ℕ) → holds name ≡ Some content → content ≡ bytes

-- The files of each two names in turn were read to their ends, and have the bytes of a connection's
-- streams.
abbrev pub AreReadStreams : (holds : List ℕ → Option (List ℕ)) → (names : List (List ℕ))
    → List FileReading → List Streams → Type 0
AreReadStreams holds [] [] [] = ⊤
AreReadStreams holds (client ∷ server ∷ names) (one ∷ other ∷ readings) (pair ∷ pairs) =
    IsReadWhole holds one client pair.client × IsReadWhole holds other server pair.server
    × AreReadStreams holds names readings pairs
AreReadStreams holds _ _ _ = ⊥

-- a read of one of the files failed
pub record OneHasFailed (readings : List FileReading) : Type 0 where
  pub front : List FileReading
  pub reading : FileReading
  pub back : List FileReading
  pub split : readings ≡ front ++ reading ∷ back
  pub failed : reading.failures ≡ 1

-- A capture of these pairs has no room for another, and nothing was read of these streams. Or with
-- what was read of them it passes the limit. The fault is at the byte after all that was written.
abbrev pub LacksRoom : (pairs : List Streams) → Streams → Fault → Type 0
LacksRoom pairs streams fault = (written : Option (List ℕ))
    × (((streams ≡ record { client = []; server = [] })
    × HasNoRoom (Some []) written pairs (errors.Refused fault))
    ⊎ BreaksOff (Some []) written (pairs ++ streams ∷ []) (errors.Refused fault))

-- The streams of the last two files that were read are refused. All files before them were read to
-- their ends, and have these pairs, which a capture may have.
pub record RefusesStreams (holds : List ℕ → Option (List ℕ)) (readings : List FileReading)
    (fault : Fault) : Type 0 where
  pub names : List (List ℕ)
  pub before : List FileReading
  pub pairs : List Streams
  pub whole : AreReadStreams holds names before pairs
  pub few : length pairs ≤ max_connections
  pub small : total_size pairs ≤ max_bytes
  pub client : FileReading
  pub server : FileReading
  pub split : readings ≡ before ++ client ∷ server ∷ []
  pub lacks : LacksRoom pairs (record { client = client.given; server = server.given }) fault

-- the readings are of the first of these names, in their order
abbrev pub AreOfFirst : (names : List (List ℕ)) → List FileReading → Type 0
AreOfFirst names readings =
    (others : List (List ℕ)) × (names ≡ map (λ reading. reading.name) readings ++ others)

-- the same, and one of the other names is that of a stream that was not opened
abbrev pub FailsToOpenLater : (names : List (List ℕ)) → List FileReading → Outcome → Type 0
FailsToOpenLater names readings outcome = (first : AreOfFirst names readings)
    × Any (λ stream. FailsToOpenStream stream outcome) first.0

-- no file was finished, and the files that were read have the first of these names
abbrev pub PacksNone : FilesRun → (names : List (List ℕ)) → Type 0
PacksNone run names = AreOfFirst names run.readings × FinishesNone run.finished

-- What came of packing the streams of these names. All were read to their ends, and the one file
-- that was finished has the output's name and is a capture of them. Or no file was finished: the
-- streams were refused, or a read failed, or a write, or memory ran out, or the output was not made
-- and nothing read, or a stream was not opened that comes after those that were read.
abbrev pub PacksFile : FilesRun → (output : List ℕ) → (names : List (List ℕ)) → Outcome → Type 0
PacksFile run output names (outcomes.Packed (Ok done)) = (pairs : List Streams)
    × AreReadStreams run.holds names run.readings pairs × ((file : List ℕ) × IsPacked file pairs
    × IsCapture One file pairs
    × (run.finished.1 ≡ record { name = output; bytes = Some file } ∷ run.finished.0))
PacksFile run output names (outcomes.Packed (Err (errors.Refused fault))) =
    RefusesStreams run.holds run.readings fault × PacksNone run names
PacksFile run output names (outcomes.Packed (Err errors.Read)) =
    OneHasFailed run.readings × PacksNone run names
PacksFile run output names (outcomes.Packed (Err error)) = PacksNone run names
PacksFile run output names outcome = (FailsToOpenStream output outcome × TouchesNone run)
    ⊎ (FailsToOpenLater names run.readings outcome × FinishesNone run.finished)
