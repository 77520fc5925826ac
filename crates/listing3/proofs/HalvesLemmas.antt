-- Hexadecimal digits, from halves of bytes.
use Rattle.listing3.proofs.Common.{◌≡◌, ℕ, Bool, true, ◌==◌, if◌then◌else◌, zero, suc, ◌+◌, ◌≤◌, ◌<◌, ◌/◌, ◌%◌, ◌++◌, List, [], ◌∷◌, slice_index, take, drop, map, length, set, refl, ap, ap₂, sym, ◌∙◌, arith, ◌*◌, append_assoc, encode_with, encode_lower, lower_digits, AreBytes, halves_in_order, AreHalves, append-nil, drop_more, drop-set-lt, length-append, map-append, take_more, take_more_set}
use Rattle.std.proofs.lemmas.Bool.{agree_below, agree_below_at, eqb-true, le-leb}
use Rattle.std.proofs.Common.{leb}

-- numbers of a list, as a test of each of them
tested : (numbers : List ℕ) (f : ℕ → ℕ) (n k : ℕ)
    → agree_below (λ i. slice_index numbers i == f i) (λ i. true) n ≡ true → k < n
    → slice_index numbers k ≡ f k
tested numbers f n k holds l =
    eqb-true (slice_index numbers k) (f k)
    (agree_below_at (λ i. slice_index numbers i == f i) (λ i. true) n k holds l)

-- a number below 16 stands in its own place
pub half_at : (n : ℕ) → n < 16 → slice_index halves_in_order n ≡ n
half_at n l = tested halves_in_order (λ i. i) 16 n refl l

-- equal rests begin with the same number
pub same_at : (now start : List ℕ) (i : ℕ) → drop i now ≡ drop i start → i < length now
    → length now ≡ length start → slice_index now i ≡ slice_index start i
same_at now start i ahead l same =
    let a = drop_more now i 0 l in
    let b = drop_more start i 0 (omega (arith, same)) in
    ap (λ (ns : List ℕ). slice_index ns 0) (sym a ∙ ahead ∙ b)

-- one number more is replaced
pub replaced : (f : ℕ → ℕ) (now start : List ℕ) (i x : ℕ) → i < length now
    → length now ≡ length start → drop i now ≡ drop i start
    → x ≡ f (slice_index now i) → take i now ≡ map f (take i start)
    → take (i + 1) (set now i x) ≡ map f (take (i + 1) start)
replaced f now start i x l same ahead is done =
    let more : take (i + 1) start ≡ take i start ++ slice_index start i ∷ [] =
    take_more start i 0 (omega (arith, same)) in
    take_more_set now i x l
    ∙ ap₂ (λ (a : List ℕ) (n : ℕ). a ++ n ∷ []) done
    (is ∙ ap f (same_at now start i ahead l same))
    ∙ sym (map-append f (take i start) (slice_index start i ∷ [])) ∙ ap (map f) (sym more)

-- the rest stays
pub rest_kept : (now start : List ℕ) (i x : ℕ) → i < length now → length now ≡ length start
    → drop i now ≡ drop i start → drop (i + 1) (set now i x) ≡ drop (i + 1) start
rest_kept now start i x l same ahead =
    let a = drop_more now i 0 l in
    let b = drop_more start i 0 (omega (arith, same)) in
    drop-set-lt (i + 1) now i x (omega arith) ∙ ap (drop 1) (sym a ∙ ahead ∙ b)

-- halves are below 16
pub halves_below : (bytes : List ℕ) → AreBytes bytes → AreHalves (encode_with halves_in_order bytes)
unfolding encode_with
halves_below [] h i = omega arith
halves_below (b ∷ bytes) h zero =
    let small : b < 256 = h 0 in
    let is = half_at (b / 16) (omega (arith, small)) in omega (arith, is, small)
halves_below (b ∷ bytes) h (suc zero) = let is = half_at (b % 16) (omega arith) in omega (arith, is)
halves_below (b ∷ bytes) h (suc (suc i)) = halves_below bytes (λ k. h (suc k)) i

-- the digits of halves
pub digits_of_halves : (bytes : List ℕ) → AreBytes bytes
    → map (slice_index lower_digits) (encode_with halves_in_order bytes) ≡ encode_lower bytes
unfolding encode_with
digits_of_halves [] h = refl
digits_of_halves (b ∷ bytes) h =
    let small : b < 256 = h 0 in
    rw (
      half_at (b / 16) (omega arith),
      half_at (b % 16) (omega arith),
      digits_of_halves bytes (λ i. h (suc i)),
    ) refl

-- hexadecimal text of two parts
pub hex_parts : (a b : List ℕ) → encode_lower (a ++ b) ≡ encode_lower a ++ encode_lower b
unfolding encode_with
hex_parts [] b = refl
hex_parts (x ∷ a) b =
    ap (λ (l : List ℕ). slice_index lower_digits (x / 16) ∷ slice_index lower_digits (x % 16) ∷ l)
    (hex_parts a b)

-- a piece was spelled, and the rest is left
pub piece_spelled : (now new whole all piece rest : List ℕ) → all ≡ piece ++ rest
    → new ≡ now ++ encode_lower piece → now ++ encode_lower all ≡ whole
    → new ++ encode_lower rest ≡ whole
piece_spelled now new whole all piece rest parts wrote e =
    ap (λ (l : List ℕ). l ++ encode_lower rest) wrote
    ∙ append_assoc now (encode_lower piece) (encode_lower rest)
    ∙ ap (λ (l : List ℕ). now ++ l) (sym (hex_parts piece rest))
    ∙ ap (λ (l : List ℕ). now ++ encode_lower l) (sym parts) ∙ e

-- the room that is left for the rest
pub left_over : (end after : ℕ) (all piece rest : List ℕ) (whole : ℕ) → all ≡ piece ++ rest
    → after ≡ end + 2 * length piece → end + 2 * length all ≡ whole
    → after + 2 * length rest ≡ whole
left_over end after all piece rest whole parts is e =
    let both : length all ≡ length piece + length rest =
    ap length parts ∙ length-append piece rest in
    omega (arith, both, is, e)

-- nothing is left to be spelled
pub all_spelled : (now whole rest : List ℕ) → length rest ≡ 0 → now ++ encode_lower rest ≡ whole
    → now ≡ whole
unfolding encode_with
all_spelled now whole [] none e = sym (append-nil now) ∙ e
all_spelled now whole (x ∷ rest) none e = absurd (omega (arith, none))

-- ---- one digit

-- a digit below ten
pub low_digit : (n : ℕ) → n < 10 → slice_index lower_digits n ≡ 48 + n
low_digit n l = tested lower_digits (λ i. 48 + i) 10 n refl l

-- a digit from ten on
pub high_digit : (n : ℕ) → n < 16 → 10 ≤ n → slice_index lower_digits n ≡ 87 + n
high_digit n l m =
    tested lower_digits (λ i. if leb 10 i then 87 + i else 48 + i) 16 n refl l
    ∙ ap (λ (b : Bool). if b then 87 + n else 48 + n) (le-leb 10 n m)
