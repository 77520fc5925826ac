-- Record marking: a stream is records joined, a record is fragments joined (RFC 5531, section 11).
use Rattle.std.specs.Prelude.{◌≡◌, ◌⊎◌, ℕ, suc, ◌+◌, ◌^◌, ◌%◌, ◌<◌, ◌≤◌, Bool, true, false, List, [], ◌++◌, length, nat_le}
use Rattle.std.specs.List.{concat}
use Rattle.record_mark.specs.Word.{Joins, number}

-- the most bytes of a record's body, a limit of this project
abbrev pub max_body : ℕ
max_body = 16777216

-- the top bit of a fragment's header, which tells the last fragment (RFC 5531, section 11)
unfoldable pub is_last : ℕ → Bool
is_last header = nat_le (2 ^ 31) header

-- its other 31 bits, the fragment's length (RFC 5531, section 11)
unfoldable pub length_of : ℕ → ℕ
length_of header = header % (2 ^ 31)

-- the header of a fragment of n bytes: one word (RFC 5531, section 11)
pub record IsHeader (header : List ℕ) (last : Bool) (n : ℕ) : Type 0 where
  pub word : length header ≡ 4
  pub top : is_last (number header) ≡ last
  pub count : length_of (number header) ≡ n

-- a header, and the bytes that the fragment carries (RFC 5531, section 11)
abbrev pub IsFragment : Bool → List ℕ → List ℕ → Type 0
IsFragment last bytes carried = (header : List ℕ) × (bytes ≡ header ++ carried)
    × IsHeader header last (length carried)

-- fragments joined, only the last with the top bit. The body is what they carry (RFC 5531, section
-- 11)
pub record IsRecord (bytes body : List ℕ) : Type 0 where
  pub fragments : List (List ℕ)
  pub last : List ℕ
  pub front : List ℕ
  pub back : List ℕ
  pub split : bytes ≡ front ++ back
  pub joined : Joins (IsFragment false) front fragments
  pub closes : IsFragment true back last
  pub carried : body ≡ concat fragments ++ last
  pub fits : length body ≤ max_body

-- The stream is records joined, with these bodies (RFC 5531, section 11).
abbrev pub Marks : List ℕ → List (List ℕ) → Type 0
Marks stream bodies = Joins IsRecord stream bodies

-- The bytes end with a whole header, with which the body would pass the limit. at is how many bytes
-- of the body stand before it (RFC 5531, section 11)
pub record IsTooLong (bytes : List ℕ) (at : ℕ) : Type 0 where
  pub fragments : List (List ℕ)
  pub front : List ℕ
  pub header : List ℕ
  pub last : Bool
  pub count : ℕ
  pub split : bytes ≡ front ++ header
  pub joined : Joins (IsFragment false) front fragments
  pub heads : IsHeader header last count
  pub carried : at ≡ length (concat fragments)
  pub fits : at ≤ max_body
  pub passes : max_body < at + count

-- A record is begun and not whole: whole fragments, and a part of one more. This is a part of its
-- header; or its header and the bytes that were got of those that it carries, of which more are
-- left. The body's bytes so far (RFC 5531, section 11)
pub record IsOpen (bytes body : List ℕ) : Type 0 where
  pub fragments : List (List ℕ)
  pub front : List ℕ
  pub part : List ℕ
  pub got : List ℕ
  pub split : bytes ≡ front ++ part
  pub begun : 0 < length bytes
  pub joined : Joins (IsFragment false) front fragments
  pub cut : ((length part < 4) × (got ≡ []))
      ⊎ ((header : List ℕ) × (last : Bool) × (left : ℕ) × (part ≡ header ++ got)
      × IsHeader header last (length got + suc left) × (length body + suc left ≤ max_body))
  pub carried : body ≡ concat fragments ++ got
  pub fits : length body ≤ max_body

-- none of a record's bytes, or some that are not all, and the bytes of its body so far (RFC 5531,
-- section 11)
abbrev pub IsUnfinished : List ℕ → List ℕ → Type 0
IsUnfinished bytes body = ((bytes ≡ []) × (body ≡ [])) ⊎ IsOpen bytes body

-- the bytes are a record, or unfinished, and these are the bytes of its body so far (RFC 5531,
-- section 11)
abbrev pub HasBody : List ℕ → List ℕ → Type 0
HasBody bytes body = IsRecord bytes body ⊎ IsUnfinished bytes body
