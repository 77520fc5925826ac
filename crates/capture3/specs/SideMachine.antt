-- The machine for one side of a connection: the chunks of its stream, whose records are judged as
-- they come.
use Rattle.std.specs.Prelude.{ℕ, zero, suc, ◌+◌, List, [], length, nat_lt, cond}
use Rattle.xdr3.specs.declared.reason.Reason.TheVariants.{RecordCut, TooManyBytes}
use Rattle.record_mark.specs.Machine.{Next, Goes, Ends, within}
use Rattle.record_mark.specs.Word.{word_next}
use Rattle.record_mark.specs.Joining.{Joining, Between, Header, Bytes}
use Rattle.capture3.specs.declared.fault.Fault.{Fault}
use Rattle.capture3.specs.declared.fault.Place.TheVariants.{Record}
use Rattle.capture3.specs.declared.fault.Side.{Side}
use Rattle.capture3.specs.Chunks.{max_bytes}
use Rattle.capture3.specs.StreamMachine.{Judge, Reading, RecordFault, fault_at, stream_next, unread}
use Rattle.capture3.specs.Sides.{file_fault}

-- a record's fault, in this connection and side
abbrev pub fault_of_record : ℕ → Side → RecordFault → Fault
fault_of_record connection side fault =
    record { place = Record connection side fault.number fault.byte; reason = fault.reason }

-- in a length word, or in a chunk's bytes, with how many are left after the next
pub data Point : Type 0 where
  Length : (part : List ℕ) → Point
  Chunk : (left : ℕ) → Point

-- where the open word begins or the next chunk would begin, the capture's stream bytes with the
-- open chunk, the records, and the point in the chunks
pub record Siding (M : Type 0) : Type 0 where
  pub at : ℕ
  pub total : ℕ
  pub reading : Reading M
  pub point : Point

-- the machine at this point
abbrev pub siding_in : {M : Type 0} → (at total : ℕ) → Reading M → Point → Siding M
siding_in at total reading point =
    record { at = at; total = total; reading = reading; point = point }

pub data SideEnd (M : Type 0) : Type 0 where
  SideCloses : (at total : ℕ) → (messages : List M) → SideEnd M
  SideRefuses : Fault → SideEnd M

-- so many bytes of the chunk are to come
abbrev pub awaiting : ℕ → Point
awaiting zero = Length []
awaiting (suc left) = Chunk left

-- the stream's word 0 has come
abbrev pub closing : {M : Type 0} → (RecordFault → Fault) → ℕ → ℕ → List M → Joining → SideEnd M
closing place at total messages Between = SideCloses (at + 4) total messages
closing place at total messages (Header body part) =
    SideRefuses (place (fault_at messages (length body) RecordCut))
closing place at total messages (Bytes body last left) =
    SideRefuses (place (fault_at messages (length body) RecordCut))

-- a length word has come
abbrev pub counted : {M : Type 0} → (RecordFault → Fault) → ℕ → ℕ → Reading M → ℕ
    → Next (Siding M) (SideEnd M)
counted place at total reading zero = Ends (closing place at total reading.messages reading.joining)
counted place at total reading (suc left) =
    cond (nat_lt max_bytes (total + suc left)) (Ends (SideRefuses (file_fault at TooManyBytes)))
    (Goes (siding_in (at + 4 + suc left) (total + suc left) reading (Chunk left)))

abbrev pub side_step : {M : Type 0} → Judge M → (RecordFault → Fault) → ℕ → ℕ → Reading M → Point
    → ℕ → Next (Siding M) (SideEnd M)
side_step judge place at total reading (Length part) byte =
    within (λ p. siding_in at total reading (Length p)) (counted place at total reading)
    (word_next part byte)
side_step judge place at total reading (Chunk left) byte =
    within (λ r. siding_in at total r (awaiting left)) (λ shown. Ends (SideRefuses (place shown)))
    (stream_next judge reading byte)

abbrev pub side_next : {M : Type 0} → Judge M → (RecordFault → Fault) → Siding M → ℕ
    → Next (Siding M) (SideEnd M)
side_next judge place s byte = side_step judge place s.at s.total s.reading s.point byte

abbrev pub siding_from : {M : Type 0} → ℕ → ℕ → Siding M
siding_from start before = siding_in start before unread (Length [])
