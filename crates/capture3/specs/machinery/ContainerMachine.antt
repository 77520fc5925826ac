-- Taking a capture apart, one byte after another, up to what is whole next. Records are not judged
-- here.
use Rattle.std.specs.Prelude.{ℕ, zero, suc, ◌+◌, List, [], ◌∷◌, length, cond, nat_eq, nat_lt}
use Rattle.xdr3.specs.declared.reason.Reason.{Reason}
use Rattle.xdr3.specs.declared.reason.Reason.TheVariants.{BadMagic, BadMark, AfterEnd, TooManyConnections, TooManyBytes, RecordCut, RecordTooLong}
use Rattle.record_mark.specs.Machine.{Next, Goes, Ends, within}
use Rattle.record_mark.specs.Word.{word_next}
use Rattle.record_mark.specs.Joining.{Joining, Between, Header, Bytes, Joined, Whole, TooLong, join_next}
use Rattle.capture3.specs.declared.fault.Fault.{Fault}
use Rattle.capture3.specs.declared.fault.Place.TheVariants as places
use Rattle.capture3.specs.declared.fault.Side.{Side}
use Rattle.capture3.specs.declared.fault.Side.TheVariants.{Client, Server}
use Rattle.capture3.specs.declared.container.position.TheConstants.{MAGIC}
use Rattle.capture3.specs.declared.container.position.spot.Event.{Event}
use Rattle.capture3.specs.declared.container.position.spot.Event.TheVariants.{Begin, Record, Turn, Close}
use Rattle.capture3.specs.Capture.{Version, One, Two}
use Rattle.capture3.specs.FileMachine.{digit}
use Rattle.capture3.specs.SidedChunksMachine.{MixedPoint, SideWord, Mixing, MixedEnd, MixedCloses, MixedRefuses, mixed_step}
use Rattle.capture3.specs.SidedChunks.{Streams, gathered}
use Rattle.capture3.specs.Sides.{file_fault}

-- the part that is open: bytes of the magic that are due, its last byte, a connection word's bytes
-- so far, the bytes so far of a chunk's length word, a chunk and how many bytes it has left after
-- the next, in version 2 the streams so far and the point in their chunks, or nothing after the
-- last word 0
pub data Opened : Type 0 where
  Magic : (due : ℕ) (more : List ℕ) → Opened
  Digit : Opened
  Mark : (version : Version) (part : List ℕ) → Opened
  Length : (side : Side) (part : List ℕ) → Opened
  Chunk : (side : Side) (left : ℕ) → Opened
  Mixed : (streams : Streams) (point : MixedPoint) → Opened
  Ended : (version : Version) → Opened

-- the file's byte at which the open word begins or the next chunk would begin, the stream bytes
-- with those of the open chunk, the connections, the whole records of the open stream, and the
-- record that is open
pub record Unpacking : Type 0 where
  pub at : ℕ
  pub total : ℕ
  pub connections : ℕ
  pub records : ℕ
  pub opened : Opened
  pub joining : Joining

-- the machine with this part and this record open
abbrev pub unpacking_with : (at total connections records : ℕ) → Opened → Joining → Unpacking
unpacking_with at total connections records opened joining =
    record {
      at = at;
      total = total;
      connections = connections;
      records = records;
      opened = opened;
      joining = joining;
    }

-- Something is whole, and after it stands this: an event, with the body where it is a record, or
-- both streams of a connection of version 2, which come as no event. Or the byte shows a fault.
pub data Unpacked : Type 0 where
  Has : Event → List ℕ → Unpacking → Unpacked
  HasStreams : Streams → Unpacking → Unpacked
  Refuses : Fault → Unpacked

-- a fault at a byte of the file
abbrev pub at_byte : ℕ → Reason → Unpacked
at_byte at reason = Refuses (file_fault at reason)

-- a fault at a byte of a record, of this number in the stream of a connection's side
abbrev pub fault_in_record : (connection : ℕ) → Side → (number byte : ℕ) → Reason → Fault
fault_in_record connection side number byte reason =
    record { place = places.Record connection side number byte; reason = reason }

-- a fault of a record
abbrev pub in_record : ℕ → Side → ℕ → ℕ → Reason → Unpacked
in_record connection side record_number byte reason =
    Refuses (fault_in_record connection side record_number byte reason)

-- the bytes of the magic that are left before its last
abbrev pub left_of_magic : List ℕ → Opened
left_of_magic [] = Digit
left_of_magic (due ∷ more) = Magic due more

-- so many bytes of the chunk are to come
abbrev pub awaiting_chunk : Side → ℕ → Opened
awaiting_chunk side zero = Length side []
awaiting_chunk side (suc left) = Chunk side left

-- in a chunk with so many bytes to come
abbrev pub in_chunk : (at total connections records : ℕ) → Side → ℕ → Joining → Unpacking
in_chunk at total connections records side left joining =
    unpacking_with at total connections records (awaiting_chunk side left) joining

-- before a connection word
abbrev pub before_mark : Version → (at total connections records : ℕ) → Joining → Unpacking
before_mark version at total connections records joining =
    unpacking_with at total connections records (Mark version []) joining

-- before a stream's first length word, after a word
abbrev pub before_stream : (at total connections : ℕ) → Joining → Side → Unpacking
before_stream at total connections joining side =
    unpacking_with (at + 4) total connections 0 (Length side []) joining

-- a connection's first part, by the version
abbrev pub begun_at : Version → (at total connections : ℕ) → Joining → Unpacking
begun_at One at total connections joining = before_stream at total connections joining Client
begun_at Two at total connections joining =
    unpacking_with (at + 4) total connections 0 (Mixed (gathered []) (SideWord [])) joining

-- a connection word has come
abbrev pub connection_marked : Version → (at total connections records : ℕ) → Joining → ℕ
    → Next Unpacking Unpacked
connection_marked version at total connections records joining zero =
    Goes (unpacking_with (at + 4) total connections records (Ended version) joining)
connection_marked version at total connections records joining (suc zero) =
    cond (nat_lt connections 65535)
    (Ends (Has Begin [] (begun_at version at total (connections + 1) joining)))
    (Ends (at_byte at TooManyConnections))
connection_marked version at total connections records joining (suc (suc more)) =
    Ends (at_byte at BadMark)

-- a stream's word 0 has come
abbrev pub stream_ended : (at total connections records : ℕ) → Side → Joining → Unpacked
stream_ended at total connections records Client Between =
    Has Turn [] (before_stream at total connections Between Server)
stream_ended at total connections records Server Between =
    Has Close [] (before_mark One (at + 4) total connections records Between)
stream_ended at total connections records side (Header body part) =
    in_record connections side (records + 1) (length body) RecordCut
stream_ended at total connections records side (Bytes body last left) =
    in_record connections side (records + 1) (length body) RecordCut

-- a chunk's length word has come
abbrev pub chunk_counted : (at total connections records : ℕ) → Side → Joining → ℕ
    → Next Unpacking Unpacked
chunk_counted at total connections records side joining zero =
    Ends (stream_ended at total connections records side joining)
chunk_counted at total connections records side joining (suc left) =
    cond (nat_lt 1073741824 (total + suc left)) (Ends (at_byte at TooManyBytes))
    (Goes (unpacking_with (at + 4 + suc left) (total + suc left) connections records
    (Chunk side left) joining))

-- a record has ended
abbrev pub record_joined : (at total connections records : ℕ) → Side → ℕ → Joined
    → Next Unpacking Unpacked
record_joined at total connections records side left (Whole body) =
    Ends (Has (Record side) body (in_chunk at total connections (records + 1) side left Between))
record_joined at total connections records side left (TooLong byte) =
    Ends (in_record connections side (records + 1) byte RecordTooLong)

-- version 2: among the chunks of both sides
abbrev pub mixed_at : (connections records : ℕ) → Joining → Mixing → Unpacking
mixed_at connections records joining m =
    unpacking_with m.at m.total connections records (Mixed m.streams m.point) joining

-- the side word 0 has come, or a fault
abbrev pub mixed_ended : (connections : ℕ) → Joining → MixedEnd → Next Unpacking Unpacked
mixed_ended connections joining (MixedCloses at total streams) =
    Ends (HasStreams streams (before_mark Two at total connections 0 joining))
mixed_ended connections joining (MixedRefuses fault) = Ends (Refuses fault)

-- what the machine for the chunks of both sides comes to
abbrev pub mixed_on : (connections records : ℕ) → Joining → Next Mixing MixedEnd
    → Next Unpacking Unpacked
mixed_on connections records joining next =
    within (mixed_at connections records joining) (mixed_ended connections joining) next

-- one byte more
abbrev pub open_step : (at total connections records : ℕ) → Joining → Opened → ℕ
    → Next Unpacking Unpacked
open_step at total connections records joining (Magic due more) byte =
    cond (nat_eq byte due)
    (Goes (unpacking_with (at + 1) total connections records (left_of_magic more) joining))
    (Ends (at_byte at BadMagic))
open_step at total connections records joining Digit byte =
    cond (nat_eq byte (digit One))
    (Goes (before_mark One (at + 1) total connections records joining))
    (cond (nat_eq byte (digit Two))
    (Goes (before_mark Two (at + 1) total connections records joining))
    (Ends (at_byte at BadMagic)))
open_step at total connections records joining (Mark version part) byte =
    within (λ p. unpacking_with at total connections records (Mark version p) joining)
    (connection_marked version at total connections records joining) (word_next part byte)
open_step at total connections records joining (Length side part) byte =
    within (λ p. unpacking_with at total connections records (Length side p) joining)
    (chunk_counted at total connections records side joining) (word_next part byte)
open_step at total connections records joining (Chunk side left) byte =
    within (in_chunk at total connections records side left)
    (record_joined at total connections records side left) (join_next joining byte)
open_step at total connections records joining (Mixed streams point) byte =
    mixed_on connections records joining (mixed_step at total streams point byte)
open_step at total connections records joining (Ended version) byte = Ends (at_byte at AfterEnd)

-- the same by where the machine stands
abbrev pub unpack_next : Unpacking → ℕ → Next Unpacking Unpacked
unpack_next u byte = open_step u.at u.total u.connections u.records u.joining u.opened byte

-- before the first byte
abbrev pub unpacking_start : Unpacking
unpacking_start = unpacking_with 0 0 0 0 (left_of_magic MAGIC) Between
