-- Words and joined pieces.
use Rattle.std.specs.Prelude.{◌≡◌, ℕ, List, [], ◌∷◌, ◌++◌, length}
use Rattle.byteorder.specs.Endian.{big_number}
use Rattle.record_mark.specs.Machine.{Next, Goes, Ends}

-- the number that four big-endian bytes are (RFC 4506, section 4.2)
unfoldable pub number : List ℕ → ℕ
number bytes = big_number 4 bytes

-- the bytes are this word: four bytes, big-endian (RFC 4506, section 4.2)
abbrev pub IsWord : List ℕ → ℕ → Type 0
IsWord bytes n = (length bytes ≡ 4) × (number bytes ≡ n)

-- the bytes are pieces joined, one for each of the things, in order
abbrev pub Joins : {X : Type 0} → (List ℕ → X → Type 0) → List ℕ → List X → Type 0
Joins Spells bytes [] = bytes ≡ []
Joins Spells bytes (x ∷ xs) = (front : List ℕ) × (rest : List ℕ) × (bytes ≡ front ++ rest)
    × Spells front x × Joins Spells rest xs

-- the machine that reads one word. Its state is the bytes so far
abbrev pub word_next : List ℕ → ℕ → Next (List ℕ) ℕ
word_next [] byte = Goes (byte ∷ [])
word_next (a ∷ []) byte = Goes (a ∷ byte ∷ [])
word_next (a ∷ b ∷ []) byte = Goes (a ∷ b ∷ byte ∷ [])
word_next (a ∷ b ∷ c ∷ more) byte = Ends (number (a ∷ b ∷ c ∷ byte ∷ []))
