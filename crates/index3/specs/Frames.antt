-- The rows of frames.
use Rattle.std.specs.Prelude.{◌≡◌, ◌⊎◌, ◌≤◌, ◌^◌, List, [], ◌∷◌, ◌++◌, length, Option, None, Some}
use Rattle.std.specs.List.{AllZip}
use Rattle.connections3.specs.Frames.{CarriesSegment, HasNotTaken, ShowsFrames}
use Rattle.connections3.specs.declared.taker.NotTaken.{NotTaken}
use Rattle.connections3.specs.declared.taker.NotTaken.TheVariants.{Memory, TooMany}
use Rattle.recording3.specs.Places.{Passed}
use Rattle.recording3.specs.Segments.{LacksSegment}
use Rattle.recording3.specs.declared.parts.NoSegment.{NoSegment}
use Rattle.recording3.specs.declared.parts.Segment.{Segment}
use Rattle.index3.specs.declared.frames.FrameRow.{FrameRow}
use Rattle.index3.specs.declared.frames.FrameTable.{FrameTable}

-- a frame carries a segment, or lacks one for a reason
abbrev pub Lacks : Passed → Option NoSegment → Type 0
Lacks frame None = (s : Segment) × CarriesSegment frame s
Lacks frame (Some why) = LacksSegment frame.head.link frame.octets frame.head.wire why

-- the row is that of a frame
pub record IsRow (frame : Passed) (row : FrameRow) : Type 0 where
  pub time : row.time ≡ frame.head.time
  pub at : row.at ≡ frame.head.at
  pub size : row.size ≡ length frame.octets
  pub wire : row.wire ≡ frame.head.wire
  pub link : row.link ≡ frame.head.link
  pub lacks : Lacks frame row.lacks

-- the rows are those of frames, in their order
abbrev pub AreRows : List Passed → List FrameRow → Type 0
AreRows frames rows = AllZip IsRow frames rows

-- a table took exactly these frames
pub record KeepsFrames (table : FrameTable) (frames : List Passed) : Type 0 where
  pub shows : ShowsFrames table.taker frames
  pub rows : AreRows frames table.rows.items

-- the last of these frames has 2^32 octets or more, and the others were taken
pub record HasHugeLast (table : FrameTable) (frames : List Passed) : Type 0 where
  pub front : List Passed
  pub last : Passed
  pub split : frames ≡ front ++ last ∷ []
  pub huge : 2 ^ 32 ≤ length last.octets
  pub keeps : KeepsFrames table front

-- A table did not take the last of these frames: its taker did not; or that did, and there was no
-- memory for the row; or the frame is too long for one.
abbrev pub HasNotKept : FrameTable → NotTaken → List Passed → Type 0
HasNotKept table error frames = HasNotTaken table.taker error frames
    ⊎ (((error ≡ Memory) × ShowsFrames table.taker frames)
    ⊎ ((error ≡ TooMany) × HasHugeLast table frames))
