-- The machine that joins the fragments of one record (RFC 5531, section 11).
use Rattle.std.specs.Prelude.{◌≡◌, ℕ, zero, suc, ◌+◌, ◌<◌, ◌≤◌, Bool, true, false, List, [], ◌∷◌, ◌++◌, length, nat_lt, cond}
use Rattle.record_mark.specs.Machine.{Next, Goes, Ends, within}
use Rattle.record_mark.specs.Word.{word_next}
use Rattle.record_mark.specs.RecordMark.{max_body, is_last, length_of, IsHeader, IsOpen, IsRecord, IsTooLong}

-- between records; in a header, after the body's bytes so far; or in a fragment's bytes, with how
-- many are left after the next
pub data Joining : Type 0 where
  Between : Joining
  Header : (body part : List ℕ) → Joining
  Bytes : (body : List ℕ) → (last : Bool) → (left : ℕ) → Joining

-- how one record ends
pub data Joined : Type 0 where
  Whole : (body : List ℕ) → Joined
  TooLong : (at : ℕ) → Joined

-- a fragment is whole
abbrev pub ended : List ℕ → Bool → Next Joining Joined
ended body true = Ends (Whole body)
ended body false = Goes (Header body [])

-- this many bytes of the fragment are still to come
abbrev pub expecting : List ℕ → Bool → ℕ → Next Joining Joined
expecting body last zero = ended body last
expecting body last (suc left) = Goes (Bytes body last left)

-- a header has come, with which the body fits its limit or not
abbrev pub headed : List ℕ → ℕ → Next Joining Joined
headed body header =
    cond (nat_lt max_body (length body + length_of header)) (Ends (TooLong (length body)))
    (expecting body (is_last header) (length_of header))

abbrev pub join_next : Joining → ℕ → Next Joining Joined
join_next Between byte = within (Header []) (headed []) (word_next [] byte)
join_next (Header body part) byte = within (Header body) (headed body) (word_next part byte)
join_next (Bytes body last left) byte = expecting (body ++ byte ∷ []) last left

-- What the bytes of a record so far are, by where the machine stands: none; or a record that is
-- open, in a part of a header, or in a fragment's bytes, of which this many are left after the next
-- (RFC 5531, section 11)
abbrev pub HasJoined : List ℕ → Joining → Type 0
HasJoined bytes Between = bytes ≡ []
HasJoined bytes (Header body part) = (o : IsOpen bytes body) × (o.part ≡ part) × (length part < 4)
HasJoined bytes (Bytes body last left) = (o : IsOpen bytes body) × (header : List ℕ)
    × (o.part ≡ header ++ o.got) × IsHeader header last (length o.got + suc left)
    × (length body + suc left ≤ max_body)

-- what bytes are that end a record: whole, or too long (RFC 5531, section 11)
abbrev pub EndsRecord : List ℕ → Joined → Type 0
EndsRecord bytes (Whole body) = IsRecord bytes body
EndsRecord bytes (TooLong at) = IsTooLong bytes at
