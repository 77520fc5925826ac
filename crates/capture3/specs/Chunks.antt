-- The bytes of a stream in a capture file: chunks, cut anywhere, and then the word 0.
use Rattle.std.specs.Prelude.{◌≡◌, ◌⊎◌, ℕ, suc, ◌+◌, ◌<◌, ◌≤◌, List, ◌++◌, length}
use Rattle.std.specs.List.{concat}
use Rattle.record_mark.specs.Word.{IsWord, Joins}

-- the most stream bytes of a capture, all its streams together
abbrev pub max_bytes : ℕ
max_bytes = 1073741824

-- a length word of at least 1, and so many bytes
pub record IsChunk (bytes chunk : List ℕ) : Type 0 where
  pub header : List ℕ
  pub split : bytes ≡ header ++ chunk
  pub word : IsWord header (length chunk)
  pub some : 0 < length chunk

-- chunks joined, and what they carry
pub record AreChunks (bytes stream : List ℕ) : Type 0 where
  pub chunks : List (List ℕ)
  pub joined : Joins IsChunk bytes chunks
  pub carried : stream ≡ concat chunks

-- chunks, and then the word 0
pub record IsStream (bytes stream : List ℕ) : Type 0 where
  pub front : List ℕ
  pub last : List ℕ
  pub split : bytes ≡ front ++ last
  pub chunks : AreChunks front stream
  pub closes : IsWord last 0

-- whole chunks within the limit, after so many stream bytes before, and a part of a length word
-- that is not whole
pub record BetweenChunks (before : ℕ) (bytes stream : List ℕ) : Type 0 where
  pub front : List ℕ
  pub part : List ℕ
  pub split : bytes ≡ front ++ part
  pub chunks : AreChunks front stream
  pub short : length part < 4
  pub fits : before + length stream ≤ max_bytes

-- the same, and a length word within the limit with fewer bytes after it than it says
pub record WithinChunk (before : ℕ) (bytes stream : List ℕ) : Type 0 where
  pub front : List ℕ
  pub header : List ℕ
  pub got : List ℕ
  pub carried : List ℕ
  pub left : ℕ
  pub split : bytes ≡ front ++ header ++ got
  pub chunks : AreChunks front carried
  pub word : IsWord header (length got + suc left)
  pub stream_is : stream ≡ carried ++ got
  pub fits : before + length stream + suc left ≤ max_bytes

-- a stream that is not whole, and its bytes so far
abbrev pub BeginsStream : ℕ → List ℕ → List ℕ → Type 0
BeginsStream before bytes stream = BetweenChunks before bytes stream
    ⊎ WithinChunk before bytes stream
