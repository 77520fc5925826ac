-- A word that may be cut between two pieces.
use Rattle.std.specs.Prelude.{◌≡◌, ℕ, List, ◌++◌, length, take}
use Rattle.std.specs.Int.{to_be_bytes, w32}
use Rattle.record_mark.specs.Word.{IsWord}
use Rattle.record_mark.specs.declared.word_part.WordPart.{WordPart}
use Rattle.record_mark.specs.declared.word_part.Word.{Word}
use Rattle.record_mark.specs.declared.word_part.Word.TheVariants.{Part, Whole}

-- the bytes of a word so far
abbrev pub bytes_so_far : WordPart → List ℕ
bytes_so_far part = take part.count (to_be_bytes w32 part.word)

-- What came of a word: the bytes taken belong to it, and it is whole, or they are all that there
-- were.
abbrev pub TakesWord : WordPart → List ℕ → ℕ → Word → Type 0
TakesWord before bytes count (Part part) =
    (bytes_so_far part ≡ bytes_so_far before ++ take count bytes) × (count ≡ length bytes)
TakesWord before bytes count (Whole n) = IsWord (bytes_so_far before ++ take count bytes) n
