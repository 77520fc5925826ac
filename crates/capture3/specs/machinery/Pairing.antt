-- A capture whose records are judged as they come: where the machine for its file stands.
use Rattle.std.specs.Prelude.{◌≡◌, ◌⊎◌, ℕ, ◌+◌, min, nat_eq, Option, Some, None, List, [], ◌∷◌, ◌++◌, take, drop}
use Rattle.xdr3.specs.declared.reason.GetError.{GetError}
use Rattle.xdr3.specs.declared.reason.GetError.TheVariants as gets
use Rattle.xdr3.specs.Item.{Item}
use Rattle.record_mark.specs.Joining.{Between, Whole, join_next}
use Rattle.record_mark.specs.Machine.{Next, Goes, Ends, Runs, Stops, after}
use Rattle.record_mark.specs.Taking.{Taking, IsWhole, body_of, released}
use Rattle.rpc_head.specs.Messages.{procedure_in}
use Rattle.capture3.specs.machinery.Calls.{Known}
use Rattle.capture3.specs.declared.reader.entry.Kind.{Kind}
use Rattle.capture3.specs.declared.reader.entry.Kind.TheVariants as kinds
use Rattle.capture3.specs.declared.fault.Error.{Error}
use Rattle.capture3.specs.declared.fault.Error.TheVariants as errors
use Rattle.capture3.specs.declared.fault.Side.{Side}
use Rattle.capture3.specs.declared.container.position.spot.Event.{Event}
use Rattle.capture3.specs.declared.container.position.spot.Event.TheVariants.{Begin, Record, Turn, Close}
use Rattle.capture3.specs.declared.container.position.spot.Event.TheVariants as events
use Rattle.capture3.specs.declared.container.Cursor.{Cursor}
use Rattle.capture3.specs.Capture.{Two}
use Rattle.capture3.specs.machinery.InPlace.{InPlaceState, LiesIn}
use Rattle.capture3.specs.machinery.KeptStreams.{Recalls, ShowsFirst}
use Rattle.capture3.specs.SidedChunks.{Streams}
use Rattle.capture3.specs.declared.container.position.Position.{Position}
use Rattle.capture3.specs.declared.container.Container.{Container}
use Rattle.capture3.specs.Bodies.{IsCall, IsReply, xid_in}
use Rattle.capture3.specs.OpenXids.{open_xids}
use Rattle.capture3.specs.Laws.{begins}
use Rattle.capture3.specs.Progress.{AreCounted, records_after}
use Rattle.capture3.specs.Rank.{number_limit, rank}
use Rattle.capture3.specs.machinery.Container.{stream_of, unpacking_of}
use Rattle.capture3.specs.Entry.{Entry}
use Rattle.capture3.specs.Entry as whole
use Rattle.capture3.specs.machinery.Messages.{IsTableOf, xids_in}
use Rattle.capture3.specs.FileMachine.{Parsing, file_next, parsed, emitted}
use Rattle.capture3.specs.machinery.Position.{unpacking_at}
use Rattle.capture3.specs.machinery.Spelled.{SpellsCall, SpellsReply}
use Rattle.capture3.specs.machinery.FileStanding.{Judged, parsing_at, resumed, Agrees, AgreesOn, emitted_at, EmitsOn}
use Rattle.capture3.specs.machinery.ContainerMachine.{Unpacking, Unpacked, Has, HasStreams, before_mark, fault_in_record}

-- these bytes have led the machine for the file here, and these entries are whole
pub record StandsAt (position : Position) (taking : Taking) (streams : Streams)
    (table : Known) (bytes : List ℕ) (entries : List Entry) : Type 0 where
  pub so_far : Judged
  pub agrees : Agrees (unpacking_of position taking streams) so_far
  pub calls : IsTableOf table so_far.calls
  pub opened : open_xids [] entries ≡ xids_in so_far.calls
  pub stands : parsed bytes ≡ Runs (parsing_at (unpacking_of position taking streams) so_far)
  pub emitted : entries ≡ emitted_at (unpacking_of position taking streams).opened so_far
  pub placed : AreCounted position.connections position.records entries

-- after a side word 0
abbrev pub after_side_word : Position → Unpacking
after_side_word p = before_mark Two p.at p.total p.connections 0 Between

-- the same; or the last of the bytes was that of a side word 0, and the streams' records are judged
abbrev pub StandsOrRecalls : Option Cursor → Position → Taking → Streams → Known
    → List ℕ → List Entry → Type 0
StandsOrRecalls None position taking streams table bytes entries =
    StandsAt position taking streams table bytes entries
StandsOrRecalls (Some cursor) position taking streams table bytes entries =
    Recalls (after_side_word position) streams cursor.side cursor.taken position.records table bytes
    entries

-- the same where the record that became whole last, if one did, is let go
abbrev pub HasCome : Container → Known → List ℕ → List Entry → Type 0
HasCome c table bytes entries =
    StandsOrRecalls c.cursor c.position (released c.joiner.taking) c.streams.kept table bytes
    entries

-- what is whole with the last byte
abbrev pub met : Event → Position → Taking → Streams → Unpacked
met Begin position taking streams = Has Begin [] (unpacking_of position taking streams)
met (Record side) position taking streams =
    Has (Record side) (body_of taking) (unpacking_at position streams Between)
met Turn position taking streams = Has Turn [] (unpacking_of position taking streams)
met Close position taking streams = Has Close [] (unpacking_of position taking streams)
met events.Streams position taking streams =
    HasStreams streams (unpacking_of position taking streams)

abbrev pub met_in : Event → Container → Unpacked
met_in event c = met event c.position c.joiner.taking c.streams.kept

-- so many connections and records
abbrev pub IsAt : (connections records : ℕ) → Unpacking → Type 0
IsAt connections records u = (u.connections ≡ connections) × (u.records ≡ records)

-- after so many connections and records
abbrev pub PlacesNext : (connections records : ℕ) → Next Unpacking Unpacked → Type 0
PlacesNext c r (Goes u) = IsAt c r u
PlacesNext c r (Ends (Has Begin body u)) = IsAt (c + 1) 0 u
PlacesNext c r (Ends (Has (Record side) body u)) = IsAt c (r + 1) u
PlacesNext c r (Ends (Has Turn body u)) = IsAt c 0 u
PlacesNext c r (Ends (Has Close body u)) = IsAt c r u
PlacesNext c r (Ends (HasStreams streams u)) = IsAt c 0 u
PlacesNext c r _ = Unit {0}

-- the last of the bytes made this whole, after these entries
pub record HasMet (container : Container) (table : Known) (event : Event)
    (bytes : List ℕ) (entries : List Entry) : Type 0 where
  pub so_far : Judged
  pub front : List ℕ
  pub byte : ℕ
  pub state : Parsing
  pub agrees : AgreesOn so_far (Ends (met_in event container))
  pub calls : IsTableOf table so_far.calls
  pub opened : open_xids [] entries ≡ xids_in so_far.calls
  pub split : bytes ≡ front ++ byte ∷ []
  pub runs : parsed front ≡ Runs state
  pub before : emitted state ≡ entries
  pub ends : file_next state byte ≡ resumed so_far (Ends (met_in event container))
  pub emits : EmitsOn so_far entries (Ends (met_in event container))
  pub placed : PlacesNext (begins entries) (records_after 0 entries) (Ends (met_in event container))

-- the next record of the streams is whole, after these entries
pub record HasRecalled (container : Container) (table : Known) (side : Side)
    (bytes : List ℕ) (entries : List Entry) : Type 0 where
  pub taken : ℕ
  pub records : ℕ
  pub count : ℕ
  pub stood : Recalls (after_side_word container.position) container.streams.kept side taken records
      table bytes entries
  pub joins : after join_next (Runs Between)
      (take count (drop taken (stream_of side container.streams.kept)))
      ≡ Stops (Whole (body_of container.joiner.taking))
  pub next_is : container.cursor ≡ Some (record { side = side; taken = taken + count })
  pub records_are : container.position.records ≡ records + 1

-- the next thing of streams that were kept is whole: a record, or an end, which is an entry
abbrev pub MeetsKept : Container → Known → Event → List ℕ → List Entry → Type 0
MeetsKept container table (Record side) bytes entries =
    HasRecalled container table side bytes entries
MeetsKept container table Turn bytes entries =
    HasCome container table bytes (entries ++ whole.Turn ∷ [])
MeetsKept container table Close bytes entries =
    HasCome container table bytes (entries ++ whole.Close ∷ [])
MeetsKept container table _ bytes entries = ⊥

-- something is whole, in one way or the other
abbrev pub MeetsEvent : Container → Known → Event → List ℕ → List Entry → Type 0
MeetsEvent container table event bytes entries =
    ((container.cursor ≡ None) × HasMet container table event bytes entries)
    ⊎ MeetsKept container table event bytes entries

-- ---- what a call leaves

-- what is whole is this entry, whose body stands there where it is a message
abbrev pub IsHeld : Kind → Taking → Entry → Type 0
IsHeld kinds.Begin taking entry = entry ≡ whole.Begin
IsHeld (kinds.Call id) taking entry = (items : List Item) × IsWhole taking
    × IsCall (body_of taking) items × (id ≡ procedure_in items) × (entry ≡ whole.Call items)
IsHeld kinds.Turn taking entry = entry ≡ whole.Turn
IsHeld (kinds.Reply id) taking entry = (items : List Item) × IsWhole taking
    × IsReply (body_of taking) (record { id = id; items = items }) × (entry ≡ whole.Reply id items)
IsHeld kinds.Close taking entry = entry ≡ whole.Close
IsHeld kinds.End taking entry = entry ≡ whole.End

-- a message has the number of its xid among these; nothing is said of other entries
abbrev pub HasNumber : ℕ → List ℕ → Entry → Type 0
HasNumber number xids (whole.Call items) =
    number ≡ min (rank nat_eq (xid_in items) xids) number_limit
HasNumber number xids (whole.Reply id items) =
    number ≡ min (rank nat_eq (xid_in items) xids) number_limit
HasNumber number xids _ = Unit {0}

-- a whole record stands that spells a message of this kind; nothing is said of the other kinds
abbrev pub SpellsKind : Kind → Taking → Type 0
SpellsKind (kinds.Call id) taking = IsWhole taking × ∥ SpellsCall id (body_of taking) ∥₁
SpellsKind (kinds.Reply id) taking = IsWhole taking × ∥ SpellsReply id (body_of taking) ∥₁
SpellsKind _ taking = Unit {0}

-- the record of this entry stands, if there is one
abbrev pub SpellsLast : Option Kind → Taking → Type 0
SpellsLast None taking = Unit {0}
SpellsLast (Some kind) taking = SpellsKind kind taking

-- The record of this message was copied, or lies in this piece; nothing is said of the other kinds.
abbrev pub LiesLast : Option Kind → InPlaceState → List ℕ → Type 0
LiesLast (Some (kinds.Call id)) joiner piece = LiesIn joiner piece
LiesLast (Some (kinds.Reply id)) joiner piece = LiesIn joiner piece
LiesLast _ joiner piece = Unit {0}

-- The bytes lead to there, and the entry, if there is one, is passed to a visitor and has this
-- number. A whole record stands until the next call.
abbrev pub GoesTo : (Passed : Entry → Type 0) → Option Kind → (number : ℕ) → Container → Known
    → List ℕ → List Entry → Type 0
GoesTo Passed None number container table bytes entries = HasCome container table bytes entries
GoesTo Passed (Some kind) number container table bytes entries =
    (entry : Entry) × IsHeld kind container.joiner.taking entry
    × HasNumber number (open_xids [] (entries ++ entry ∷ [])) entry
    × Passed entry × HasCome container table bytes (entries ++ entry ∷ [])

-- one of the bytes shows the fault, and these entries are all that they reach, unless memory ran
-- out
abbrev pub FailsAt : List ℕ → List Entry → Error → Type 0
FailsAt bytes entries (errors.Refused fault) = ShowsFirst bytes entries fault
FailsAt bytes entries errors.Memory = Unit {0}
FailsAt bytes entries _ = ⊥

-- the fault of the record that became whole last, or that memory ran out
abbrev pub error_at : Position → Side → GetError → Error
error_at position side (gets.Stop stop) =
    errors.Refused (fault_in_record position.connections side position.records stop.at stop.reason)
error_at position side gets.Memory = errors.Memory

-- the bytes are refused, or memory ran out: no device failed
abbrev pub IsOfBytes : Error → Type 0
IsOfBytes errors.Read = ⊥
IsOfBytes errors.Write = ⊥
IsOfBytes _ = Unit {0}

abbrev pub entry_cost : Option Kind → ℕ
entry_cost None = 0
entry_cost (Some kind) = 1

-- one call or reply more, or none: at most 4,294,967,295 are counted
abbrev pub CountsMessages : Option Kind → (calls replies calls_now replies_now : ℕ) → Type 0
CountsMessages (Some (kinds.Call id)) c r d s = (d ≡ min (c + 1) number_limit) × (s ≡ r)
CountsMessages (Some (kinds.Reply id)) c r d s = (d ≡ c) × (s ≡ min (r + 1) number_limit)
CountsMessages _ c r d s = (d ≡ c) × (s ≡ r)

-- ---- what a call says of its result

-- the fault, whatever bytes and entries came before the piece; no device failed
pub record FailsFrom (container : Container) (calls : Known) (piece : List ℕ) (error : Error) : Type
    0 where
  pub device : IsOfBytes error
  pub fault : (bytes : List ℕ) (entries : List Entry) → HasCome container calls bytes entries
      → FailsAt (bytes ++ piece) entries error
