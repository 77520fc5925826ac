-- Reads of a file by offsets, and the bytes of a stream in it.
use Rattle.std.specs.Prelude.{◌≡◌, ℕ, Bool, true, List, [], ◌∷◌, ◌++◌, length, take, drop}
use Rattle.std.specs.List.{AllByRecursion}
use Rattle.streams3.specs.declared.runs.Run.{Run}
use Rattle.streams3.specs.Content.{AreIn, content_of}

-- a read at an offset of the file gave these bytes
pub record OffsetRead : Type 0 where
  pub at : ℕ
  pub bytes : List ℕ

-- so many of the file's bytes from an offset on
abbrev pub bytes_at : (file : List ℕ) → (at size : ℕ) → List ℕ
bytes_at file at size = take size (drop at file)

-- the file has the bytes at the offset
abbrev pub HasBytesRead : (file : List ℕ) → OffsetRead → Type 0
HasBytesRead file reading = bytes_at file reading.at (length reading.bytes) ≡ reading.bytes

-- By all that its reads gave, the file may have these bytes. It does not change between reads.
abbrev pub Allow : List OffsetRead → (file : List ℕ) → Type 0
Allow readings file = AllByRecursion (HasBytesRead file) readings

-- What contracts see of a recording's file: what its reads gave, and how many failed, up to
-- 2^64 - 1.
pub record RecordedReads : Type 0 where
  pub readings : List OffsetRead
  pub failures : ℕ

-- What contracts see of a payload: its runs, what the reads of the file gave, the bytes that were
-- given on, how many reads failed, up to 2^64 - 1, and whether the last one that did not fail gave
-- none.
pub record PayloadReads : Type 0 where
  pub runs : List Run
  pub readings : List OffsetRead
  pub given : List ℕ
  pub failures : ℕ
  pub is_spent : Bool

-- The trail of a payload: its runs, and the bytes that it gave. A call that takes any source
-- promises only what it appends to the trail, so this says that the payload still has its runs.
abbrev pub octets_in : List Run → List ℕ
octets_in [] = []
octets_in (run ∷ runs) = run.position ∷ run.at ∷ run.size ∷ run.frame ∷ octets_in runs

abbrev pub trail_of : PayloadReads → List ℕ
trail_of reads = length reads.runs ∷ octets_in reads.runs ++ reads.given

-- in a file that the reads allow, the bytes given are the first of the runs' bytes, and these come
-- after them
abbrev pub LeavesPayload : PayloadReads → (file left : List ℕ) → Type 0
LeavesPayload reads file left = content_of file reads.runs ≡ reads.given ++ left

-- In each file that the reads allow, the bytes given are the first of the runs' bytes. If the last
-- read gave none, they are all of them, and the runs lie in the file.
pub record GivesPayload (reads : PayloadReads) (file : List ℕ) : Type 0 where
  pub left : List ℕ
  pub first : LeavesPayload reads file left
  pub all : reads.is_spent ≡ true → left ≡ []
  pub within : reads.is_spent ≡ true → AreIn file reads.runs
