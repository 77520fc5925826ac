-- What a container holds, as the machine has it.
use Rattle.std.specs.Prelude.{◌≡◌, ◌≢◌, ◌⊎◌, ◌+◌, ◌-◌, ◌≤◌, ◌<◌, ℕ, Option, Some, None, Result, Ok, Err, List, [], length, take, drop}
use Rattle.record_mark.specs.Joining.{Joining, Between, Whole, TooLong, join_next}
use Rattle.xdr3.specs.declared.reason.Reason.TheVariants.{RecordCut, RecordTooLong}
use Rattle.record_mark.specs.Machine.{Run, Runs, Stops, after}
use Rattle.record_mark.specs.Taking.{Taking, IsRunning, IsWhole, body_of, joined_body, joining_of, released, unbegun}
use Rattle.capture3.specs.declared.fault.Error.{Error}
use Rattle.capture3.specs.declared.fault.Error.TheVariants as errors
use Rattle.capture3.specs.declared.fault.Noted.{Noted}
use Rattle.capture3.specs.declared.container.position.spot.Event.{Event}
use Rattle.capture3.specs.declared.container.position.spot.Event.TheVariants.{Begin, Record, Turn, Close, Streams}
use Rattle.capture3.specs.declared.container.Container.{Container}
use Rattle.capture3.specs.declared.container.Cursor.{Cursor}
use Rattle.capture3.specs.declared.fault.Side.{Side}
use Rattle.capture3.specs.declared.fault.Side.TheVariants as sides
use Rattle.capture3.specs.Capture.{Two}
use Rattle.capture3.specs.SidedChunks as sided
use Rattle.capture3.specs.SidedChunks.{size}
use Rattle.capture3.specs.declared.container.position.Position.{Position}
use Rattle.capture3.specs.declared.container.position.Transition.{Transition}
use Rattle.capture3.specs.machinery.InPlace.{IsCopied, LiesIn}
use Rattle.capture3.specs.machinery.Position.{AreEmpty, cost_of, IsBeforeMark, room_of, ShowsFault, StoredAt, StoredWith, unpacking_at}
use Rattle.capture3.specs.machinery.ContainerMachine.{Unpacking, Unpacked, Has, HasStreams, fault_in_record, unpack_next}

-- with a record its body, and else no whole record
abbrev pub Leaves : Option Event → Taking → Type 0
Leaves (Some (Record side)) taking = IsWhole taking
Leaves _ taking = IsRunning taking

-- where the machine stands
abbrev pub unpacking_of : Position → Taking → sided.Streams → Unpacking
unpacking_of position taking streams = unpacking_at position streams (joining_of taking)

-- the same of a container
abbrev pub unpacking_in : Container → Unpacking
unpacking_in c = unpacking_of c.position c.joiner.taking c.streams.kept

-- Where the machine is: it goes on, or something is whole. After a record the next one has not
-- begun.
abbrev pub arrived : Option Event → Position → Taking → sided.Streams → Run Unpacking Unpacked
arrived None position taking streams = Runs (unpacking_of position taking streams)
arrived (Some Begin) position taking streams =
    Stops (Has Begin [] (unpacking_of position taking streams))
arrived (Some (Record side)) position taking streams =
    Stops (Has (Record side) (body_of taking) (unpacking_at position streams Between))
arrived (Some Turn) position taking streams =
    Stops (Has Turn [] (unpacking_of position taking streams))
arrived (Some Close) position taking streams =
    Stops (Has Close [] (unpacking_of position taking streams))
arrived (Some Streams) position taking streams =
    Stops (HasStreams streams (unpacking_of position taking streams))

-- the bytes lead the machine from there to here
abbrev pub Arrives : Unpacking → List ℕ → Option Event → Position → Taking → sided.Streams → Type 0
Arrives from bytes event position taking streams =
    after unpack_next (Runs from) bytes ≡ arrived event position taking streams

-- the fault is shown, unless memory ran out
abbrev pub ShowsError : Unpacking → List ℕ → Error → Type 0
ShowsError from bytes errors.Memory = Unit {0}
ShowsError from bytes error = ShowsFault from bytes error

-- the stream of one side
abbrev pub stream_of : Side → sided.Streams → List ℕ
stream_of sides.Client streams = streams.client
stream_of sides.Server streams = streams.server

-- The streams are those that the position tells; or, at a cursor, they are whole, and some of their
-- bytes were judged.
abbrev pub AreStored : Position → Option Cursor → sided.Streams → Type 0
AreStored position None streams = StoredAt position.spot position.total streams
AreStored position (Some cursor) streams =
    (cursor.taken ≤ length (stream_of cursor.side streams)) × (position.records ≤ cursor.taken)
    × (size streams ≤ position.total) × IsBeforeMark Two position.spot

-- a joiner between two calls: no record is begun where the streams are judged
abbrev pub IsReady : Option Cursor → Taking → Type 0
IsReady None taking = IsRunning taking
IsReady (Some cursor) taking = taking ≡ unbegun

-- Ready for the next bytes: the streams are those that the position tells, and the joiner is this
-- far.
pub record CanGoOn (cursor : Option Cursor) (taking : Taking) (c : Container) : Type 0 where
  pub stored : AreStored c.position cursor c.streams.kept
  pub ready : IsReady cursor taking

-- These bytes of the file lead from one position, joiner and streams to others, and with the last
-- of them this is whole, or nothing.
pub record Leads (before after_it : Position) (takings : Taking × Taking)
    (streams : sided.Streams × sided.Streams) (bytes : List ℕ) (event : Option Event) : Type 0 where
  pub machine : Arrives (unpacking_of before takings.0 streams.0) bytes event after_it takings.1
      streams.1
  pub joiner : Leaves event takings.1
  pub stored : StoredWith event after_it streams.1
  -- what became whole took its room
  pub room : room_of after_it streams.1 + cost_of event streams.1 ≤ room_of before streams.0

-- the same from a container on
abbrev pub Reaches : Container → List ℕ → Option Event → Position → Container → Type 0
Reaches old bytes event position new =
    Leads old.position position (old.joiner.taking, new.joiner.taking)
    (old.streams.kept, new.streams.kept) bytes event

-- how many bytes of a piece were taken: some if nothing is whole
pub record TakesPiece {X : Type 0} (piece : List ℕ) (taken : ℕ × Option X) : Type 0 where
  pub within : taken.0 ≤ length piece
  pub some : 0 < length piece → taken.1 ≡ None → 0 < taken.0

-- How many things of whole streams can become whole after so many bytes of this side's: a record
-- for each byte that is left, and the ends of the streams.
abbrev pub room_after : Side → ℕ → sided.Streams → ℕ
room_after sides.Client taken streams = 2 + (size streams - taken)
room_after sides.Server taken streams = 1 + (length streams.server - taken)

-- the same by the cursor
abbrev pub recall_room : Option Cursor → sided.Streams → ℕ
recall_room None streams = 0
recall_room (Some cursor) streams = room_after cursor.side cursor.taken streams

-- how many things can become whole from here on, kept streams with the rest of the file
abbrev pub room_in : Container → ℕ
room_in c = room_of c.position c.streams.kept + recall_room c.cursor c.streams.kept

-- ---- what is whole next in the streams that are kept, after the cursor

-- the bytes of the side's stream that were not taken
abbrev pub rest_of : Cursor → sided.Streams → List ℕ
rest_of cursor streams = drop cursor.taken (stream_of cursor.side streams)

-- With a record the cursor goes on by its bytes. With the client's end the server's stream is next,
-- from its first record, and with the server's end the streams are let go. In both the last record
-- of the stream is whole.
abbrev pub Recalled : Cursor → (old new : Position) (streams left : sided.Streams) → Taking
    → Option Cursor → Event → Type 0
Recalled cursor old new streams left taking next (Record side) =
    (side ≡ cursor.side) × (left ≡ streams) × (new ≡ record old { records = old.records + 1 })
    × ((count : ℕ) × (next ≡ Some (record { side = cursor.side; taken = cursor.taken + count }))
    × (after join_next (Runs Between) (take count (rest_of cursor streams))
    ≡ Stops (Whole (body_of taking))))
Recalled cursor old new streams left taking next Turn =
    (cursor.side ≡ sides.Client) × (left ≡ streams) × (new ≡ record old { records = 0 })
    × (next ≡ Some (record { side = sides.Server; taken = 0 })) × (joining_of taking ≡ Between)
    × (after join_next (Runs Between) (rest_of cursor streams) ≡ Runs Between)
Recalled cursor old new streams left taking next Close =
    (cursor.side ≡ sides.Server) × AreEmpty left × (new ≡ old) × (next ≡ None)
    × (joining_of taking ≡ Between)
    × (after join_next (Runs Between) (rest_of cursor streams) ≡ Runs Between)
Recalled cursor old new streams left taking next _ = ⊥

-- the stream ends within this record
abbrev pub IsCutInRecord : Position → Side → Joining → Error → Type 0
IsCutInRecord position side joining error =
    (joining ≢ Between)
    × (error
    ≡ errors.Refused (fault_in_record position.connections side (position.records + 1)
    (length (joined_body joining)) RecordCut))

-- the fault of the record after the cursor, unless memory ran out
abbrev pub RecallFails : Cursor → Position → sided.Streams → Error → Type 0
RecallFails cursor position streams (errors.Refused fault) =
    ((at : ℕ) × (n : ℕ)
    × (after join_next (Runs Between) (take n (rest_of cursor streams)) ≡ Stops (TooLong at))
    × (fault
    ≡ fault_in_record position.connections cursor.side (position.records + 1) at RecordTooLong))
    ⊎ ((j : Joining) × (j ≢ Between)
    × (after join_next (Runs Between) (rest_of cursor streams) ≡ Runs j)
    × (fault
    ≡ fault_in_record position.connections cursor.side (position.records + 1)
    (length (joined_body j)) RecordCut))
RecallFails cursor position streams errors.Memory = Unit {0}
RecallFails cursor position streams _ = ⊥

-- before the first byte of the client's stream
abbrev pub first_cursor : Cursor
first_cursor = record { side = sides.Client; taken = 0 }

-- What is whole, or nothing, with these bytes of the file. It comes from the file; or it is the
-- first thing of streams that are whole with the last of the bytes; or, with no byte, the next
-- thing of such streams.
pub data Comes (old new : Container) (bytes : List ℕ) (event : Option Event) : Type 0 where
  FromFile : old.cursor ≡ None → new.cursor ≡ None
      → Arrives (unpacking_in old) bytes event new.position new.joiner.taking new.streams.kept
      → Comes old new bytes event
  FirstKept : (mid : Container) (one : Event) → old.cursor ≡ None
      → Arrives (unpacking_in old) bytes (Some Streams) mid.position mid.joiner.taking
      mid.streams.kept
      → StoredWith (Some Streams) mid.position mid.streams.kept → event ≡ Some one
      → Recalled first_cursor mid.position new.position mid.streams.kept new.streams.kept
      new.joiner.taking
      new.cursor one → Comes old new bytes event
  NextKept : (cursor : Cursor) (one : Event) → old.cursor ≡ Some cursor → bytes ≡ []
      → event ≡ Some one
      → Recalled cursor old.position new.position old.streams.kept new.streams.kept
      new.joiner.taking new.cursor one
      → Comes old new bytes event

-- the fault of what would come, in the same three ways, unless memory ran out
pub data ComesToFault (old : Container) (bytes : List ℕ) (error : Error) : Type 0 where
  InFile : old.cursor ≡ None → ShowsError (unpacking_in old) bytes error
      → ComesToFault old bytes error
  InFirstKept : (mid : Container) (n : ℕ) → old.cursor ≡ None
      → Arrives (unpacking_in old) (take n bytes) (Some Streams) mid.position
      mid.joiner.taking mid.streams.kept
      → RecallFails first_cursor mid.position mid.streams.kept error → ComesToFault old bytes error
  InNextKept : (cursor : Cursor) → old.cursor ≡ Some cursor
      → RecallFails cursor old.position old.streams.kept error → ComesToFault old bytes error

-- What is whole next, and how many bytes of a piece were taken for it: none if it is of kept
-- streams. The container stays ready for the next bytes.
pub record ComesNext (old new : Container) (piece : List ℕ) (next : ℕ × Option Event) : Type 0 where
  pub taken : TakesPiece piece next
  pub recalling : old.cursor ≢ None → (next.0 ≡ 0) × (next.1 ≢ None)
  pub opened : next.1 ≢ Some Streams
  pub comes : Comes old new (take next.0 piece) next.1
  pub joiner : Leaves next.1 new.joiner.taking
  pub lies : LiesIn new.joiner (take next.0 piece)
  pub ready : CanGoOn new.cursor (released new.joiner.taking) new
  pub room : room_in new + cost_of next.1 new.streams.kept ≤ room_in old

-- some bytes were taken, and what is whole with them
pub record StepsTo (old new : Container) (rest : List ℕ) (step : ℕ × Option Event) : Type 0 where
  pub some : 0 < step.0
  pub within : step.0 ≤ length rest
  pub reaches : Reaches old (take step.0 rest) step.1 new.position new
  pub copied : IsCopied new.joiner
  pub cursor : new.cursor ≡ old.cursor

-- the container is where a step leads, or the step's error is noted
abbrev pub GoesBy : Result Transition Error → (old new : Container)
    → Result (ℕ × Option Event) Noted → Error → Type 0
GoesBy (Ok step) old new (Ok went) error = (went.0 ≡ step.count) × (went.1 ≡ step.event)
    × (new ≡ record old { position = step.position })
GoesBy (Err found) old new (Err noted) error = found ≡ error
GoesBy _ old new _ error = ⊥
