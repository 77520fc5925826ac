-- The first fault of a file.
use Rattle.std.specs.Prelude.{◌≡◌, ◌≢◌, ◌⊎◌, ℕ, suc, ◌+◌, ◌<◌, List, [], ◌∷◌, ◌++◌, length}
use Rattle.record_mark.specs.Word.{IsWord, Joins}
use Rattle.xdr3.specs.declared.reason.Reason.TheVariants.{BadMagic, CaptureCut, BadMark, AfterEnd, TooManyConnections}
use Rattle.capture3.specs.declared.fault.Fault.{Fault}
use Rattle.capture3.specs.Capture.{Version, magic, max_connections, total_size, IsConnection}
use Rattle.capture3.specs.SidedChunks.{Streams}
use Rattle.capture3.specs.Connections.{ConnectionShows}
use Rattle.capture3.specs.Sides.{file_fault}
use Rattle.capture3.specs.Typed.{IsWellFormed}

-- the magic, whole connections, a connection word, and what comes after it
pub record AfterConnections (bytes : List ℕ) : Type 0 where
  pub version : Version
  pub front : List ℕ
  pub whole : List ℕ
  pub word : List ℕ
  pub rest : List ℕ
  pub connections : List Streams
  pub mark : ℕ
  pub split : bytes ≡ front ++ word ++ rest
  pub begins : front ≡ magic version ++ whole
  pub joined : Joins (IsConnection version) whole connections
  pub is_word : IsWord word mark

-- the rules: the last byte of these bytes shows this fault
pub data Rule (bytes : List ℕ) (fault : Fault) : Type 0 where
  -- a byte among the first 8, after the front of a magic, differs from the next byte of each magic
  -- with that front
  MagicDiffers : (version : Version) (front more : List ℕ) (byte due : ℕ)
      → bytes ≡ front ++ byte ∷ [] → magic version ≡ front ++ due ∷ more
      → ((other : Version) (expected : ℕ) (rest : List ℕ) → magic other ≡ front ++ expected ∷ rest
      → byte ≢ expected)
      → fault ≡ file_fault (length front) BadMagic → Rule bytes fault
  -- a whole connection word is not 0 or 1
  MarkIsBad : (b : AfterConnections bytes) → b.rest ≡ [] → 1 < b.mark
      → fault ≡ file_fault (length b.front) BadMark → Rule bytes fault
  -- it is 1 after 65,535 connections
  ConnectionIsTooMany : (b : AfterConnections bytes) → b.rest ≡ [] → b.mark ≡ 1
      → length b.connections ≡ max_connections
      → fault ≡ file_fault (length b.front) TooManyConnections → Rule bytes fault
  -- in the next connection, whose bytes begin after its word 1
  WithinConnection : (b : AfterConnections bytes) → b.mark ≡ 1
      → ConnectionShows b.version (record {
        connection = suc (length b.connections);
        start = length b.front + 4;
        before = total_size b.connections;
      }) b.rest fault → Rule bytes fault
  -- a byte after the last word 0
  ByteAfterEnd : (b : AfterConnections bytes) → b.mark ≡ 0 → length b.rest ≡ 1
      → fault ≡ file_fault (length b.front + 4) AfterEnd → Rule bytes fault

-- A rule holds of the bytes, and none of any shorter prefix.
pub record Shows (bytes : List ℕ) (fault : Fault) : Type 0 where
  pub rule : Rule bytes fault
  pub first : (front more : List ℕ) (byte : ℕ) (other : Fault) → bytes ≡ front ++ byte ∷ more
      → Rule front other → ⊥

-- no prefix shows a fault
abbrev pub IsClean : List ℕ → Type 0
IsClean bytes = (front rest : List ℕ) (fault : Fault) → bytes ≡ front ++ rest → Shows front fault
    → ⊥

-- A prefix of the file shows the fault; or the file is clean and not well formed, and is cut at its
-- length.
abbrev pub FirstFault : List ℕ → Fault → Type 0
FirstFault file fault =
    ((front : List ℕ) × (rest : List ℕ) × (file ≡ front ++ rest) × Shows front fault)
    ⊎ (IsClean file × (IsWellFormed file → ⊥) × (fault ≡ file_fault (length file) CaptureCut))
