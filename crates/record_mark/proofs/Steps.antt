-- Many bytes at once: those of a header, and those of a fragment.
use Rattle.std.proofs.Common.{◌≡◌, ℕ, ◌+◌, ◌^◌, ◌<◌, ◌≤◌, List, [], ◌++◌, length, take, drop, refl, sym, ap, ◌∙◌, append-nil, arith, length-append, length-take, length-drop, Bool, true, cond, lt-ltb, le-ltb, le-leb}
use Rattle.std.specs.Prelude.{◌%◌, nat_le}
use Rattle.std.proofs.lemmas.Bool.{leb-true}
use Rattle.std.proofs.lemmas.List.{drop-take}
use Rattle.record_mark.proofs.Common.{take-add, Ends, Runs, landed, after, IsWord, number, word_next, max_body, is_last, length_of, IsHeader, IsRecord, Header, TooLong, headed, expecting, join_next}
use Rattle.byteorder.specs.Numbers.{length-bytes_high_first, big_number-reads_back}
use Rattle.byteorder.specs.Endian.{big_bytes}
use Rattle.record_mark.proofs.Machines.{after-append, nested_runs}
use Rattle.record_mark.proofs.Words.{word_runs}
use Rattle.record_mark.proofs.Joins.{header_runs, begun}

-- what the four bytes of a number are
pub IsWord-big_bytes : (n : ℕ) → n < 256 ^ 4 → IsWord (big_bytes 4 n) n
unfolding number
IsWord-big_bytes n h = (
  length-bytes_high_first 4 n,
  (ap number (sym (append-nil (big_bytes 4 n))) ∙ big_number-reads_back 4 n [] h),
)

part_runs : (body part : List ℕ) → length part < 4
    → after join_next (Runs (Header body [])) part ≡ Runs (Header body part)
part_runs body part short =
    nested_runs word_next join_next (Header body) (headed body) (λ s byte. refl) part [] part
    (word_runs part short)

from_part : (body part bytes joined : List ℕ) → joined ≡ part ++ bytes → length part < 4
    → after join_next (Runs (Header body part)) bytes
    ≡ after join_next (Runs (Header body [])) joined
from_part body part bytes joined is short =
    sym (ap (after join_next (Runs (Header body []))) is
    ∙ after-append join_next (Runs (Header body [])) part bytes
    ∙ ap (λ r. after join_next r bytes) (part_runs body part short))

-- a part of a header, and then some of its bytes
pub header_goes_on : (body part bytes joined : List ℕ) → joined ≡ part ++ bytes
    → length part + length bytes < 4
    → after join_next (Runs (Header body part)) bytes ≡ Runs (Header body joined)
header_goes_on body part bytes joined is short =
    let sum = ap length is ∙ length-append part bytes in
    from_part body part bytes joined is (omega arith) ∙ part_runs body joined (omega arith)

-- a part of a header, and then the rest of its bytes
pub header_ends : (body part bytes joined : List ℕ) → joined ≡ part ++ bytes → length part < 4
    → length part + length bytes ≡ 4
    → after join_next (Runs (Header body part)) bytes ≡ landed (headed body (number joined))
header_ends body part bytes joined is short whole =
    let sum = ap length is ∙ length-append part bytes in
    from_part body part bytes joined is short ∙ header_runs body joined (omega arith)

-- some of a fragment's bytes
pub fragment_goes_on : (body bytes joined : List ℕ) (last : Bool) (left less : ℕ)
    → joined ≡ body ++ bytes → less + length bytes ≡ left
    → after join_next (landed (expecting body last left)) bytes
    ≡ landed (expecting joined last less)
fragment_goes_on body bytes joined last left less is sum =
    begun body last bytes left less (omega arith)
    ∙ ap (λ (b : List ℕ). landed (expecting b last less)) (sym is)

-- a header with which the body would pass the limit, and one with which it would not
pub headed_passes : (body : List ℕ) (header : ℕ) → max_body < length body + length_of header
    → headed body header ≡ Ends (TooLong (length body))
headed_passes body header h =
    ap
    (λ b.
    cond b (Ends (TooLong (length body)))
    (expecting body (is_last header) (length_of header)))
    (lt-ltb max_body (length body + length_of header) h)

pub headed_goes_on : (body : List ℕ) (header : ℕ) (last : Bool) (n : ℕ) → is_last header ≡ last
    → length_of header ≡ n → length body + n ≤ max_body → headed body header ≡ expecting body last n
headed_goes_on body header last n top count fits =
    rw (count, top) (ap (λ b. cond b (Ends (TooLong (length body))) (expecting body last n))
    (le-ltb max_body (length body + n) fits))

-- the top bit, and the length beside it
top_bit : (len : ℕ) → is_last (2 ^ 31 + len) ≡ true
unfolding is_last
top_bit len = le-leb (2 ^ 31) (2 ^ 31 + len) (omega arith)

other_bits : (len : ℕ) → len ≤ max_body → length_of (2 ^ 31 + len) ≡ len
unfolding length_of
other_bits len fits = omega arith

pub heads : (len : ℕ) → len ≤ max_body → IsHeader (big_bytes 4 (2 ^ 31 + len)) true len
heads len fits =
    let word = IsWord-big_bytes (2 ^ 31 + len) (omega arith) in
    record {
      word = word.0;
      top = ap is_last word.1 ∙ top_bit len;
      count = ap length_of word.1 ∙ other_bits len fits;
    }

-- one fragment is a record
pub one_fragment : (header body : List ℕ) (len : ℕ) → IsHeader header true len → length body ≡ len
    → len ≤ max_body → IsRecord (header ++ body) body
one_fragment header body len h size fits =
    record {
      fragments = [];
      last = body;
      front = [];
      back = header ++ body;
      split = refl;
      joined = refl;
      closes = (header, refl, record { word = h.word; top = h.top; count = h.count ∙ sym size });
      carried = refl;
      fits = omega arith;
    }

-- what the header of a last fragment says
pub last_header : (piece : List ℕ) (word len : ℕ) → number (take 4 piece) ≡ word
    → IsHeader (take 4 piece) true len → (2 ^ 31 ≤ word) × (word % (2 ^ 31) ≡ len)
unfolding is_last length_of
last_header piece word len is h = (
  leb-true (2 ^ 31) word (ap (nat_le (2 ^ 31)) (sym is) ∙ h.top),
  ap (λ n. n % (2 ^ 31)) (sym is) ∙ h.count,
)

-- a record that stands whole in one fragment
pub whole_in_one : (piece : List ℕ) (word len : ℕ) → number (take 4 piece) ≡ word
    → word ≡ 2 ^ 31 + len → len ≤ max_body → 4 + len ≤ length piece
    → IsRecord (take (4 + len) piece) (drop 4 (take (4 + len) piece))
whole_in_one piece word len is top fits within =
    let four = length-take 4 piece in
    let rest = length-drop 4 piece in
    let size = length-take len (drop 4 piece) in
    let header : IsHeader (take 4 piece) true len =
    record {
      word = omega arith;
      top = ap is_last (is ∙ top) ∙ top_bit len;
      count = ap length_of (is ∙ top) ∙ other_bits len fits;
    } in
    rw (drop-take 4 len piece, take-add 4 len piece)
    (one_fragment (take 4 piece) (take len (drop 4 piece)) len header (omega arith) fits)
