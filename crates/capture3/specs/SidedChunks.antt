-- The streams of a connection in version 2 of a capture file: chunks of both sides in any order,
-- and then the side word 0.
use Rattle.std.specs.Prelude.{◌≡◌, ◌⊎◌, ℕ, suc, ◌+◌, ◌<◌, ◌≤◌, List, [], ◌∷◌, ◌++◌, length}
use Rattle.record_mark.specs.Word.{IsWord, Joins}
use Rattle.capture3.specs.declared.fault.Side.{Side}
use Rattle.capture3.specs.declared.fault.Side.TheVariants.{Client, Server}
use Rattle.capture3.specs.Chunks.{max_bytes, IsChunk}

-- the bytes of a connection's two streams
pub record Streams : Type 0 where
  pub client : List ℕ
  pub server : List ℕ

abbrev pub size : Streams → ℕ
size streams = length streams.client + length streams.server

-- a chunk's side, and the bytes that it carries
pub record SidedChunk : Type 0 where
  pub side : Side
  pub bytes : List ℕ

-- the word before a chunk of this side
abbrev pub side_word : Side → ℕ
side_word Client = 1
side_word Server = 2

-- a side word, and a chunk
pub record IsSidedChunk (bytes : List ℕ) (chunk : SidedChunk) : Type 0 where
  pub word : List ℕ
  pub rest : List ℕ
  pub split : bytes ≡ word ++ rest
  pub sided : IsWord word (side_word chunk.side)
  pub chunked : IsChunk rest chunk.bytes

-- what a chunk of the second side adds to the stream of the first: its bytes, or none
abbrev pub of_side : Side → Side → List ℕ → List ℕ
of_side Client Client bytes = bytes
of_side Server Server bytes = bytes
of_side _ _ bytes = []

-- the streams with a chunk's bytes at the end of its side's
abbrev pub with_more : Streams → Side → List ℕ → Streams
with_more streams side bytes = record {
  client = streams.client ++ of_side Client side bytes;
  server = streams.server ++ of_side Server side bytes;
}

-- the stream of one side: its chunks' bytes joined, in order
abbrev pub carried_by : Side → List SidedChunk → List ℕ
carried_by side [] = []
carried_by side (chunk ∷ chunks) = of_side side chunk.side chunk.bytes ++ carried_by side chunks

-- both streams
abbrev pub gathered : List SidedChunk → Streams
gathered chunks = record { client = carried_by Client chunks; server = carried_by Server chunks }

-- sided chunks, and then the side word 0
pub record AreMixed (bytes : List ℕ) (streams : Streams) : Type 0 where
  pub chunks : List SidedChunk
  pub front : List ℕ
  pub last : List ℕ
  pub split : bytes ≡ front ++ last
  pub joined : Joins IsSidedChunk front chunks
  pub closes : IsWord last 0
  pub carried : streams ≡ gathered chunks

-- ---- what is not whole, after so many stream bytes before the connection

-- whole chunks within the limit, and a part of a side word that is not whole
pub record BetweenSides (before : ℕ) (bytes : List ℕ) : Type 0 where
  pub chunks : List SidedChunk
  pub front : List ℕ
  pub part : List ℕ
  pub split : bytes ≡ front ++ part
  pub joined : Joins IsSidedChunk front chunks
  pub short : length part < 4
  pub fits : before + size (gathered chunks) ≤ max_bytes

-- whole chunks, a side word, and what comes after it
pub record AfterSideWord (bytes : List ℕ) : Type 0 where
  pub chunks : List SidedChunk
  pub side : Side
  pub front : List ℕ
  pub word : List ℕ
  pub rest : List ℕ
  pub split : bytes ≡ front ++ word ++ rest
  pub joined : Joins IsSidedChunk front chunks
  pub sided : IsWord word (side_word side)

-- whole chunks within the limit, a side word, and a part of a length word that is not whole
pub record AfterSide (before : ℕ) (bytes : List ℕ) : Type 0 where
  pub here : AfterSideWord bytes
  pub short : length here.rest < 4
  pub fits : before + size (gathered here.chunks) ≤ max_bytes

-- whole chunks, a side word, and a length word within the limit with fewer bytes after it than it
-- says
pub record WithinSided (before : ℕ) (bytes : List ℕ) : Type 0 where
  pub here : AfterSideWord bytes
  pub header : List ℕ
  pub got : List ℕ
  pub left : ℕ
  pub split : here.rest ≡ header ++ got
  pub counts : IsWord header (length got + suc left)
  pub fits : before + size (gathered here.chunks) + (length got + suc left) ≤ max_bytes

-- a connection that is not whole, after its word 1
abbrev pub BeginsMixed : ℕ → List ℕ → Type 0
BeginsMixed before bytes = BetweenSides before bytes ⊎ AfterSide before bytes
    ⊎ WithinSided before bytes
