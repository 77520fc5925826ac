-- The faults of one side of a connection, and where they stand.
use Rattle.std.specs.Prelude.{◌≡◌, ℕ, suc, ◌+◌, ◌<◌, List, ◌++◌, length}
use Rattle.record_mark.specs.Word.{IsWord}
use Rattle.xdr3.specs.declared.reason.Reason.{Reason}
use Rattle.xdr3.specs.declared.reason.Reason.TheVariants.{TooManyBytes}
use Rattle.xdr3.specs.declared.reason.Stop.{Stop}
use Rattle.capture3.specs.declared.fault.Fault.{Fault}
use Rattle.capture3.specs.declared.fault.Place.TheVariants.{File, Record}
use Rattle.capture3.specs.declared.fault.Side.{Side}
use Rattle.capture3.specs.Chunks.{max_bytes, AreChunks, IsStream}
use Rattle.capture3.specs.Records.{Judgement, StreamShows, IsCut}

-- Where the bytes of a connection are, after its word 1, or those of its server stream: the
-- connection's number, counted from 1, the file's byte at which these bytes begin, and the
-- capture's stream bytes before them.
pub record Position : Type 0 where
  pub connection : ℕ
  pub start : ℕ
  pub before : ℕ

-- a fault at a byte of the file
abbrev pub file_fault : ℕ → Reason → Fault
file_fault at reason = record { place = File at; reason = reason }

-- a fault of the record after these messages of the side; records are counted from 1
abbrev pub place_at : {M : Type 0} → ℕ → Side → List M → Stop → Fault
place_at connection side messages stop =
    record { place = Record connection side (suc (length messages)) stop.at; reason = stop.reason }

-- the last byte of a stream's bytes in the file shows this fault
pub data SideShows {M : Type 0} (judge : Judgement M) (side : Side) (position : Position)
    (bytes : List ℕ) (fault : Fault) : Type 0 where
  -- a chunk's whole length word, with which the stream bytes would pass the limit
  PassesBytes : (front last stream : List ℕ) (count : ℕ) → bytes ≡ front ++ last
      → AreChunks front stream → IsWord last count → 0 < count
      → max_bytes < position.before + length stream + count
      → fault ≡ file_fault (position.start + length front) TooManyBytes
      → SideShows judge side position bytes fault
  -- the stream's word 0 while a record is open
  CutsRecord : (stream : List ℕ) (messages : List M) (stop : Stop) → IsStream bytes stream
      → IsCut judge stream messages stop → fault ≡ place_at position.connection side messages stop
      → SideShows judge side position bytes fault
  -- a chunk's byte that shows a fault of its record
  ShowsRecord : (front header got before : List ℕ) (left : ℕ) (messages : List M) (stop : Stop)
      → bytes ≡ front ++ header ++ got → AreChunks front before
      → IsWord header (length got + left) → 0 < length got
      → StreamShows judge (before ++ got) messages stop
      → fault ≡ place_at position.connection side messages stop
      → SideShows judge side position bytes fault
