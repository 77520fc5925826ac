-- A capture whose streams are cut into full chunks.
use Rattle.std.specs.Prelude.{◌≡◌, ℕ, ◌<◌, ◌≤◌, List, [], ◌∷◌, ◌++◌, length, ⊤}
use Rattle.std.specs.List.{concat, flat_map}
use Rattle.record_mark.specs.Word.{Joins}
use Rattle.xdr3.specs.Item.{word_bytes}
use Rattle.capture3.specs.Capture.{One, magic}
use Rattle.capture3.specs.SidedChunks.{Streams}
use Rattle.canon3.specs.Bytes.{chunk_bytes}

-- how many bytes a full chunk has
abbrev pub full_size : ℕ
full_size = 65536

-- Each chunk is full but the last, which has what is left of the stream. No chunk is empty.
abbrev pub AreCut : List (List ℕ) → Type 0
AreCut [] = ⊤
AreCut (chunk ∷ []) = (0 < length chunk) × (length chunk ≤ full_size)
AreCut (chunk ∷ next ∷ more) = (length chunk ≡ full_size) × AreCut (next ∷ more)

-- the chunks of a stream, and the word 0
pub record IsPackedStream (bytes stream : List ℕ) : Type 0 where
  pub chunks : List (List ℕ)
  pub cut : AreCut chunks
  pub carried : stream ≡ concat chunks
  pub are : bytes ≡ flat_map chunk_bytes chunks ++ word_bytes 0

-- the word 1, the client stream, and the server stream
pub record IsPackedConnection (bytes : List ℕ) (streams : Streams) : Type 0 where
  pub client : List ℕ
  pub server : List ℕ
  pub split : bytes ≡ word_bytes 1 ++ (client ++ server)
  pub client_is : IsPackedStream client streams.client
  pub server_is : IsPackedStream server streams.server

-- the magic, and connections
pub record ArePacked (bytes : List ℕ) (pairs : List Streams) : Type 0 where
  pub connections : List ℕ
  pub split : bytes ≡ magic One ++ connections
  pub joined : Joins IsPackedConnection connections pairs

-- the magic, the connections, and the word 0
pub record IsPacked (file : List ℕ) (pairs : List Streams) : Type 0 where
  pub front : List ℕ
  pub split : file ≡ front ++ word_bytes 0
  pub packed : ArePacked front pairs
