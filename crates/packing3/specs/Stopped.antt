-- What an error says of what was packed.
use Rattle.std.specs.Prelude.{◌≡◌, ℕ, ◌+◌, ◌<◌, ◌≤◌, List, ◌++◌, length, replicate, Option, ⊤}
use Rattle.std.specs.List.{flat_map}
use Rattle.std.specs.Io.KnownBytes.{Appends}
use Rattle.xdr3.specs.Item.{word_bytes}
use Rattle.xdr3.specs.declared.reason.Reason.TheVariants as reasons
use Rattle.capture3.specs.declared.fault.Error.{Error}
use Rattle.capture3.specs.declared.fault.Error.TheVariants as errors
use Rattle.capture3.specs.declared.fault.Fault.{Fault}
use Rattle.capture3.specs.declared.fault.Place.TheVariants as places
use Rattle.capture3.specs.Capture.{total_size, max_connections}
use Rattle.capture3.specs.SidedChunks.{Streams}
use Rattle.capture3.specs.Chunks.{max_bytes}
use Rattle.canon3.specs.Bytes.{chunk_bytes}
use Rattle.packing3.specs.Packed.{ArePacked, IsPacked}

-- A chunk comes next, and after it words 0 alone. With it the stream bytes of all that was read,
-- `total`, pass the limit, and without it they keep it. The fault is at its length word.
pub record ChunkPassesLimit (fault : Fault) (at : ℕ) (next : List ℕ) (total : ℕ) : Type 0 where
  pub chunk : List ℕ
  pub words : ℕ
  pub begins : next ≡ chunk_bytes chunk ++ flat_map word_bytes (replicate words 0)
  pub over : max_bytes < total
  pub within : total ≤ max_bytes + length chunk
  pub is : fault ≡ record { place = places.File at; reason = reasons.TooManyBytes }

-- What an error says where `at` bytes of the file are written, and `next` are its other bytes.
abbrev pub Explains : Error → (at : ℕ) (next : List ℕ) (total : ℕ) → Type 0
Explains (errors.Refused fault) at next total = ChunkPassesLimit fault at next total
Explains errors.Read at next total = ⊤
Explains errors.Write at next total = ⊤
Explains errors.Memory at next total = ⊥

-- A front is written of the capture of all that was read: of what was added, and of the pair that
-- an error stopped.
pub record BreaksOff (old new : Option (List ℕ)) (pairs : List Streams)
    (error : Error) : Type 0 where
  pub file : List ℕ
  pub front : List ℕ
  pub next : List ℕ
  pub packed : IsPacked file pairs
  pub split : file ≡ front ++ next
  pub appended : Appends old new front
  pub observed : Explains error (length front) next (total_size pairs)

-- The pairs are as many as a capture may have. They are written, and the fault is at the byte that
-- follows them.
pub record HasNoRoom (old new : Option (List ℕ)) (pairs : List Streams)
    (error : Error) : Type 0 where
  pub front : List ℕ
  pub packed : ArePacked front pairs
  pub appended : Appends old new front
  pub full : length pairs ≡ max_connections
  pub is : error ≡ errors.Refused
      (record { place = places.File (length front); reason = reasons.TooManyConnections })
