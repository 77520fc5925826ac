-- A packing, and the histories for which it stands: what its sink held before, and the pairs of
-- streams that were added.
use Rattle.std.specs.Prelude.{◌≡◌, ◌⊎◌, ℕ, List, [], ◌∷◌, ◌++◌, length, Option, None, Result, Ok, Err}
use Rattle.capture3.specs.Observed.{Gave, IsSpent}
use Rattle.std.specs.Io.KnownBytes.{Appends}
use Rattle.capture3.specs.declared.fault.Error.{Error}
use Rattle.capture3.specs.declared.fault.Error.TheVariants as errors
use Rattle.capture3.specs.Capture.{One, magic, total_size, IsCapture}
use Rattle.capture3.specs.SidedChunks.{Streams}
use Rattle.canon3.specs.WriteErrors.{CountsWriting}
use Rattle.canon3.specs.SinkWrites.{AppendsFront}
use Rattle.packing3.specs.declared.packing.Packing.{Packing}
use Rattle.packing3.specs.Devices.{Sources}
use Rattle.packing3.specs.Packed.{ArePacked, IsPacked}
use Rattle.packing3.specs.Stopped.{HasNoRoom, BreaksOff}

-- the capture of the pairs is written
pub record HasWrittenCapture (old new : Option (List ℕ)) (pairs : List Streams) : Type 0 where
  pub file : List ℕ
  pub packed : IsPacked file pairs
  pub capture : IsCapture One file pairs
  pub appended : Appends old new file

-- A front of it is written, and a write or the flush failed.
pub record HasWrittenFront (old new : Option (List ℕ)) (pairs : List Streams)
    (error : Error) : Type 0 where
  pub file : List ℕ
  pub packed : IsPacked file pairs
  pub appended : AppendsFront old new file
  pub is : error ≡ errors.Write

abbrev pub Finishes : (old new : Option (List ℕ)) → List Streams → Result (Unit {0}) Error → Type 0
Finishes old new pairs (Ok done) = HasWrittenCapture old new pairs
Finishes old new pairs (Err error) = HasWrittenFront old new pairs error

module _ {W : Type 0} where
  -- what is answered for good
  abbrev pub ending_of : Packing W → Option (Result (Unit {0}) Error)
  ending_of packing = packing.ended

  -- where the capture is written to, as the writes have left it
  abbrev pub sink_of : Packing W → W
  sink_of packing = packing.sink

  -- A write or a flush that failed counts once, and nothing else counts.
  abbrev pub CountsWrites : {X : Type 0} → (W → ℕ) → Packing W → Packing W → Result X Error → Type 0
  CountsWrites failures old new result =
      CountsWriting (failures (sink_of old)) (failures (sink_of new)) result

  -- The sink held `old` before the start, and was given the magic and the connections of these
  -- pairs since.
  pub record HasAdded (written : W → Option (List ℕ)) (packing : Packing W) (old : Option (List ℕ))
      (pairs : List Streams) : Type 0 where
    pub going : ending_of packing ≡ None
    pub front : List ℕ
    pub packed : ArePacked front pairs
    pub appended : Appends old (written (sink_of packing)) front
    pub count : packing.connections ≡ length pairs
    pub streamed : packing.extent.streamed ≡ total_size pairs
    pub at : packing.extent.at ≡ length front

  -- One pair more is added, whose sources are read to their ends. Or no pair has room, and nothing
  -- was read or written. Or an error came while the pair was read and written.
  abbrev pub AddsStreams : (W → Option (List ℕ)) → Packing W → Sources → (old : Option (List ℕ))
      → List Streams → Streams → Result (Unit {0}) Error → Type 0
  AddsStreams written new sources old pairs streams (Ok done) = IsSpent sources.client_after
      × IsSpent sources.server_after × HasAdded written new old (pairs ++ streams ∷ [])
  AddsStreams written new sources old pairs streams (Err error) =
      ((streams ≡ record { client = []; server = [] })
      × HasNoRoom old (written (sink_of new)) pairs error)
      ⊎ BreaksOff old (written (sink_of new)) (pairs ++ streams ∷ []) error

  -- the same, with the streams that the sources gave in the call
  pub record AddsTo (written : W → Option (List ℕ)) (new : Packing W) (sources : Sources)
      (old : Option (List ℕ)) (pairs : List Streams)
      (result : Result (Unit {0}) Error) : Type 0 where
    pub streams : Streams
    pub from_client : Gave sources.client_before sources.client_after streams.client
    pub from_server : Gave sources.server_before sources.server_after streams.server
    pub adds : AddsStreams written new sources old pairs streams result

  -- so for whatever the packing represents before
  abbrev pub AddsPair : (W → Option (List ℕ)) → (before new : Packing W) → Sources
      → Result (Unit {0}) Error → Type 0
  AddsPair written before new sources result =
      (old : Option (List ℕ)) (pairs : List Streams) → HasAdded written before old pairs
      → AddsTo written new sources old pairs result

  -- ---- the start

  -- Memory ran out, and the sink is as it was; or a write failed, and a front of the magic is
  -- written.
  abbrev pub FailsToStart : (W → Option (List ℕ)) → W → Error → W → Type 0
  FailsToStart written sink error new = ((error ≡ errors.Memory) × (new ≡ sink))
      ⊎ ((error ≡ errors.Write) × AppendsFront (written sink) (written new) (magic One))

  abbrev pub CountsStart : (W → ℕ) → W → Result (Packing W) (Error × W) → Type 0
  CountsStart failures sink (Ok packing) = failures (sink_of packing) ≡ failures sink
  CountsStart failures sink (Err failed) =
      CountsWriting {X = Unit {0}} (failures sink) (failures failed.1) (Err failed.0)
