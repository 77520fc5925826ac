-- All frames of a recording that is read in pieces.
use Rattle.std.specs.Prelude.{◌≡◌, ℕ, ◌+◌, ◌-◌, ◌^◌, min, List, [], ◌∷◌, ◌++◌, length, Result, Err}
use Rattle.std.specs.List.{concat}
use Rattle.capture3.specs.Observed.{Gave, IsSpent, Observed}
use Rattle.recording3.specs.Places.{IsPart, LacksPart, MayGoOn, Passed, ReadingPlace, behind, at_front, frames_of}
use Rattle.recording3.specs.declared.contents.Ending.{Ending}
use Rattle.recording3.specs.declared.contents.RecordingPart.{RecordingPart}
use Rattle.recording3.specs.declared.frames.RecordingEnd.{RecordingEnd}
use Rattle.recording3.specs.declared.frames.Failed.{Failed}
use Rattle.recording3.specs.declared.frames.Failed.TheVariants.{Read, Memory, Taker}

-- Where a fact held of some frames, another holds of them and these.
unfoldable pub Extends : (List Passed → Type 0) → (List Passed → Type 0) → List Passed → Type 0
Extends Old New frames = (before : List Passed) → Old before → New (before ++ frames)

-- Behind a position stand these parts, one after another, whose frames are these. They lead to
-- another position.
unfoldable pub AreParts : ReadingPlace → List (List ℕ) → List Passed → ReadingPlace → Type 0
AreParts p [] frames q = (frames ≡ []) × (q ≡ p)
AreParts p (bytes ∷ parts) frames q =
    (part : RecordingPart) × (later : List Passed) × IsPart p bytes part
    × (part.size ≡ length bytes) × (frames ≡ frames_of p bytes part.content ++ later)
    × AreParts (behind p part) parts later q

-- The octets of a file are parts one after another, whose frames are these, and then a rest, with
-- which no part begins, for a reason. Before the file came so many frames.
pub record ReadsRecording (before : ℕ) (file : List ℕ) (frames : List Passed) (e : RecordingEnd) :
    Type 0 where
  pub parts : List (List ℕ)
  pub rest : List ℕ
  pub last : ReadingPlace
  pub split : file ≡ concat parts ++ rest
  pub joined : AreParts (at_front before) parts frames last
  pub lacks : LacksPart last rest e.why
  pub count : e.frames ≡ before + length frames
  pub place : e.offset ≡ length (concat parts)

-- What the reads of a source gave is read so, and its frames were taken. If more could change the
-- reason, nothing is left.
pub record ReadsFrames (before : ℕ) (source : Observed × Observed) (Took : List Passed → Type 0)
    (e : RecordingEnd) : Type 0 where
  pub file : List ℕ
  pub frames : List Passed
  pub gave : Gave (source.0) (source.1) file
  pub reads : ReadsRecording before file frames e
  pub took : Took frames
  pub all : MayGoOn e.why → IsSpent (source.1)

-- what a failure leaves, where these frames were passed and a rest follows the last position
abbrev pub LeavesFrames : {E : Type 0} → ReadingPlace × List ℕ → List Passed
    → (List Passed → Type 0)
    → (E → List Passed → Type 0) → Failed E → Type 0
-- a read failed: the frames of all parts that are there whole were taken
LeavesFrames at frames Took Fails Read =
    Took frames × ((why : Ending) × MayGoOn why × LacksPart (at.0) (at.1) why)
-- memory was short: these frames were taken
LeavesFrames at frames Took Fails Memory = Took frames
-- the taker failed at the frame of the next part, behind these
LeavesFrames at frames Took Fails (Taker error) =
    (part : RecordingPart) × (one : Passed) × IsPart (at.0) (at.1) part
    × (frames_of (at.0) (at.1) part.content ≡ one ∷ []) × Fails error (frames ++ one ∷ [])

-- Behind a position the bytes are parts one after another, and then a rest. Going on failed there.
pub record StopsReading {E : Type 0} (p : ReadingPlace) (bytes : List ℕ)
    (Took : List Passed → Type 0)
    (Fails : E → List Passed → Type 0) (failed : Failed E) : Type 0 where
  pub parts : List (List ℕ)
  pub rest : List ℕ
  pub frames : List Passed
  pub last : ReadingPlace
  pub split : bytes ≡ concat parts ++ rest
  pub joined : AreParts p parts frames last
  pub leaves : LeavesFrames (last, rest) frames Took Fails failed

-- What the reads of a source gave was read so far.
pub record StopsFrames {E : Type 0} (before : ℕ) (source : Observed × Observed)
    (Took : List Passed → Type 0) (Fails : E → List Passed → Type 0) (failed : Failed E)
    : Type 0 where
  pub file : List ℕ
  pub gave : Gave (source.0) (source.1) file
  pub stops : StopsReading (at_front before) file Took Fails failed

-- how many reads of a source have failed: one more at `Read`
abbrev pub CountsFailedReads : {X E : Type 0} → ℕ → ℕ → Result X (Failed E) → Type 0
CountsFailedReads old new (Err Read) = new ≡ min (old + 1) (2 ^ 64 - 1)
CountsFailedReads old new _ = new ≡ old
