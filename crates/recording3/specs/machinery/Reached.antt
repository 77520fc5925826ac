-- What the functions between a reading and its definitions say.
use Rattle.std.specs.Prelude.{◌≡◌, ℕ, ◌+◌, ◌-◌, ◌^◌, ◌<◌, ◌≤◌, min, ⊤, List, [], ◌∷◌, ◌++◌, Result, Err}
use Rattle.std.specs.List.{concat}
use Rattle.capture3.specs.Observed.{Gave, Observed}
use Rattle.recording3.specs.Frames.{AreParts}
use Rattle.recording3.specs.Places.{Passed, ReadingPlace}
use Rattle.recording3.specs.declared.contents.Content.{Content}
use Rattle.recording3.specs.declared.contents.Content.TheVariants as contents
use Rattle.recording3.specs.declared.contents.RecordingPart.{RecordingPart}
use Rattle.recording3.specs.declared.frames.Failed.{Failed}
use Rattle.recording3.specs.declared.frames.Failed.TheVariants.{Read, Memory, Taker}
use Rattle.recording3.specs.declared.frames.NoMore.{NoMore}
use Rattle.recording3.specs.declared.frames.NoMore.TheVariants as more
use Rattle.recording3.specs.declared.places.Reached as reached

abbrev pub place_of : reached.Reached → ReadingPlace
place_of r = record {
  format = r.format;
  interfaces = r.interfaces.items;
  frames = r.frames;
  offset = r.offset;
}

-- the octets of a frame are in its part
abbrev pub IsFrameInside : Content → ℕ → Type 0
IsFrameInside (contents.Frame f) size = (f.begin ≤ f.end) × (f.end ≤ size)
IsFrameInside _ size = ⊤

-- a part is in so many bytes
abbrev pub IsInside : ℕ → RecordingPart → Type 0
IsInside count part = (0 < part.size) × (part.size ≤ count) × IsFrameInside part.content part.size

-- The bytes are parts, of which a position is followed by another, and whose frames were taken.
pub record Passes (p : ReadingPlace) (Took : List Passed → Type 0) (bytes : List ℕ)
    (q : ReadingPlace)
    : Type 0 where
  pub parts : List (List ℕ)
  pub frames : List Passed
  pub split : bytes ≡ concat parts
  pub joined : AreParts p parts frames q
  pub took : Took frames

-- Going behind a part failed: nothing was taken, or the taker failed at the part's frame.
abbrev pub StopsAt : {E : Type 0} → List Passed → Type 0 → (E → List Passed → Type 0) → Failed E
    → Type 0
StopsAt frames Kept Fails Read = ⊥
StopsAt frames Kept Fails Memory = Kept
StopsAt frames Kept Fails (Taker error) = (one : Passed) × (frames ≡ one ∷ []) × Fails error frames

-- no read failed
abbrev pub IsOfPassing : {E : Type 0} → Failed E → Type 0
IsOfPassing Read = ⊥
IsOfPassing Memory = ⊤
IsOfPassing (Taker error) = ⊤

-- what a window held, and what it holds: behind that stands what the source gave
abbrev pub Gets : Observed → Observed → List ℕ → List ℕ → Type 0
Gets old new held held' = (got : List ℕ) × Gave old new got × (held' ≡ held ++ got)

-- how many reads of a source have failed: one more at `Read`
abbrev pub CountsMore : {X : Type 0} → ℕ → ℕ → Result X NoMore → Type 0
CountsMore old new (Err more.Read) = new ≡ min (old + 1) (2 ^ 64 - 1)
CountsMore old new _ = new ≡ old
