-- A capture file: a magic, connections of two streams each, and the word 0.
use Rattle.std.specs.Prelude.{◌≡◌, ℕ, zero, ◌+◌, ◌≤◌, List, [], ◌∷◌, ◌++◌, codes, length}
use Rattle.record_mark.specs.Word.{IsWord, Joins}
use Rattle.capture3.specs.Chunks.{max_bytes, IsStream}
use Rattle.capture3.specs.SidedChunks.{Streams, size, AreMixed}

-- of a file: 1, with the streams of a connection one after the other, or 2, with the chunks of both
-- in any order
pub data Version : Type 0 where
  One : Version
  Two : Version

-- the eight bytes with which a file begins
abbrev pub magic : Version → List ℕ
magic One = codes "NFS3CAP1"
magic Two = codes "NFS3CAP2"

-- the most connections of a capture
abbrev pub max_connections : ℕ
max_connections = 65535

-- the stream bytes of connections together
abbrev pub total_size : List Streams → ℕ
total_size [] = zero
total_size (streams ∷ more) = size streams + total_size more

-- The streams of a connection: in version 1 the client stream, and then the server stream; in
-- version 2 the chunks of both.
abbrev pub AreStreams : Version → List ℕ → Streams → Type 0
AreStreams One bytes streams = (front : List ℕ) × (last : List ℕ) × (bytes ≡ front ++ last)
    × IsStream front streams.client × IsStream last streams.server
AreStreams Two bytes streams = AreMixed bytes streams

-- the word 1, and the connection's streams
pub record IsConnection (version : Version) (bytes : List ℕ) (streams : Streams) : Type 0 where
  pub mark : List ℕ
  pub rest : List ℕ
  pub split : bytes ≡ mark ++ rest
  pub one : IsWord mark 1
  pub both : AreStreams version rest streams

-- The file is the magic, the connections, and the word 0, within the limits.
pub record IsCapture (version : Version) (file : List ℕ) (connections : List Streams) : Type 0 where
  pub bytes : List ℕ
  pub last : List ℕ
  pub split : file ≡ magic version ++ bytes ++ last
  pub joined : Joins (IsConnection version) bytes connections
  pub closes : IsWord last 0
  pub few : length connections ≤ max_connections
  pub small : total_size connections ≤ max_bytes
