-- What the functions within the crate write: a chunk, a stream, a connection.
use Rattle.std.specs.Prelude.{◌≡◌, ℕ, ◌+◌, ◌*◌, ◌<◌, ◌≤◌, List, [], ◌∷◌, ◌++◌, length, Option, Result, Ok, Err}
use Rattle.capture3.specs.Observed.{Gave, IsSpent, Observed}
use Rattle.std.specs.Io.KnownBytes.{Appends}
use Rattle.std.specs.List.{flat_map}
use Rattle.capture3.specs.declared.fault.Error.{Error}
use Rattle.capture3.specs.SidedChunks.{Streams, size}
use Rattle.canon3.specs.Bytes.{chunk_bytes}
use Rattle.packing3.specs.declared.extent.Extent.{Extent}
use Rattle.packing3.specs.Devices.{Sources}
use Rattle.packing3.specs.Packed.{IsPackedConnection, IsPackedStream, full_size}
use Rattle.packing3.specs.Stopped.{Explains}

-- the last chunk: none, or some bytes
abbrev pub last_chunk : List ℕ → List (List ℕ)
last_chunk [] = []
last_chunk (b ∷ bytes) = (b ∷ bytes) ∷ []

-- A capture as far as it is written: the bytes of its sink, and how much they are.
pub record CaptureSoFar : Type 0 where
  pub bytes : Option (List ℕ)
  pub extent : Extent

-- these bytes are written, which carry so many stream bytes
pub record Grows (extent after : Extent) (bytes : List ℕ) (streamed : ℕ) : Type 0 where
  pub at : after.at ≡ extent.at + length bytes
  pub streamed_is : after.streamed ≡ extent.streamed + streamed

-- Besides `room` bytes no more than five are written for each stream byte: a chunk has four more
-- than it carries, and carries at least one.
abbrev pub GrowsLittle : (room : ℕ) (extent after : Extent) → Type 0
GrowsLittle room extent after =
    after.at + 5 * extent.streamed ≤ extent.at + room + 5 * after.streamed

-- A chunk of the next n bytes of the source is written: of fewer than fill it only where no more
-- are left, and no chunk where there are none.
pub record HasChunk (old_observed observed : Observed) (old new : CaptureSoFar) (n : ℕ) : Type
    0 where
  pub chunk : List ℕ
  pub consumed : Gave old_observed observed chunk
  pub many : length chunk ≡ n
  pub within : n ≤ full_size
  pub ended : n < full_size → IsSpent observed
  pub appended : Appends old.bytes new.bytes (flat_map chunk_bytes (last_chunk chunk))
  pub grows : Grows old.extent new.extent (flat_map chunk_bytes (last_chunk chunk)) n

-- the source's bytes are written to their end, as a stream
pub record HasStream (old_observed observed : Observed) (old new : CaptureSoFar) : Type 0 where
  pub stream : List ℕ
  pub bytes : List ℕ
  pub consumed : Gave old_observed observed stream
  pub ended : IsSpent observed
  pub packed : IsPackedStream bytes stream
  pub appended : Appends old.bytes new.bytes bytes
  pub grows : Grows old.extent new.extent bytes (length stream)

-- A front of these bytes is written, and an error came. They begin at this byte of the file.
pub record IsStopped (old written : Option (List ℕ)) (bytes : List ℕ) (at total : ℕ)
    (error : Error) : Type 0 where
  pub front : List ℕ
  pub next : List ℕ
  pub split : bytes ≡ front ++ next
  pub appended : Appends old written front
  pub observed : Explains error (at + length front) next total

-- a front is written of the chunk of what was read
pub record StopsInChunk (old_observed observed : Observed) (old : CaptureSoFar)
    (written : Option (List ℕ)) (error : Error) : Type 0 where
  pub chunk : List ℕ
  pub consumed : Gave old_observed observed chunk
  pub within : length chunk ≤ full_size
  pub stopped : IsStopped old.bytes written (flat_map chunk_bytes (last_chunk chunk))
      old.extent.at (old.extent.streamed + length chunk) error

-- a front is written of the stream of what was read
pub record StopsInStream (old_observed observed : Observed) (old : CaptureSoFar)
    (written : Option (List ℕ)) (error : Error) : Type 0 where
  pub stream : List ℕ
  pub bytes : List ℕ
  pub consumed : Gave old_observed observed stream
  pub packed : IsPackedStream bytes stream
  pub stopped : IsStopped old.bytes written bytes old.extent.at
      (old.extent.streamed + length stream) error

-- the word 1 and both sources' bytes to their ends are written, as a connection
pub record HasConnection (sources : Sources) (old new : CaptureSoFar) : Type 0 where
  pub streams : Streams
  pub bytes : List ℕ
  pub from_client : Gave sources.client_before sources.client_after streams.client
  pub from_server : Gave sources.server_before sources.server_after streams.server
  pub client_ended : IsSpent sources.client_after
  pub server_ended : IsSpent sources.server_after
  pub packed : IsPackedConnection bytes streams
  pub appended : Appends old.bytes new.bytes bytes
  pub grows : Grows old.extent new.extent bytes (size streams)

-- a front is written of the connection of what was read
pub record StopsInConnection (sources : Sources) (old : CaptureSoFar) (written : Option (List ℕ))
    (error : Error) : Type 0 where
  pub streams : Streams
  pub bytes : List ℕ
  pub from_client : Gave sources.client_before sources.client_after streams.client
  pub from_server : Gave sources.server_before sources.server_after streams.server
  pub packed : IsPackedConnection bytes streams
  pub stopped : IsStopped old.bytes written bytes old.extent.at
      (old.extent.streamed + size streams) error

-- ---- what each function writes: its part, or at an error a front of the part of what was read

abbrev pub WritesChunk : (old_observed observed : Observed) (old new : CaptureSoFar)
    → Result ℕ Error → Type 0
WritesChunk old_observed observed old new (Ok n) = HasChunk old_observed observed old new n
WritesChunk old_observed observed old new (Err error) =
    StopsInChunk old_observed observed old new.bytes error

abbrev pub WritesStream : (old_observed observed : Observed) (old new : CaptureSoFar)
    → Result (Unit {0}) Error → Type 0
WritesStream old_observed observed old new (Ok done) = HasStream old_observed observed old new
WritesStream old_observed observed old new (Err error) =
    StopsInStream old_observed observed old new.bytes error

abbrev pub WritesConnection : Sources → (old new : CaptureSoFar) → Result (Unit {0}) Error → Type 0
WritesConnection sources old new (Ok done) = HasConnection sources old new
WritesConnection sources old new (Err error) = StopsInConnection sources old new.bytes error
