-- Bytes that are put into a buffer.
use Rattle.listing3.proofs.Common.{◌≡◌, ℕ, ◌+◌, ◌-◌, ◌≤◌, ◌<◌, List, ◌++◌, length, take, drop, set, length-set, ap, sym, ◌∙◌, arith, append_assoc, decimal_digit, decimal, take-append-add, length-take-le, take-append-drop, take_rest, take-take, take_more_set, take-append_seam}
use Rattle.listing3.specs.machinery.PutsBytes.{PutsBytes}

-- what stands before a place is kept where it is kept before a later place
pub kept_below : (m n : ℕ) (xs ys : List ℕ) → m ≤ n → take n xs ≡ take n ys → take m xs ≡ take m ys
kept_below m n xs ys l e = sym (take-take m n xs l) ∙ (ap (take m) e ∙ take-take m n ys l)

-- what stands before the bytes that are put is kept
pub kept_by : (old new : List ℕ) (at end : ℕ) (bytes : List ℕ) → PutsBytes old new at end bytes
    → at ≤ end → at ≤ length old → take at new ≡ take at old
kept_by old new at end bytes put after within =
    let start : at ≡ length (take at old) = sym (length-take-le at old within) in
    sym (take-take at end new after) ∙ ap (take at) put.0
    ∙ ap (λ (n : ℕ). take n (take at old ++ bytes)) start ∙ take-append_seam (take at old) bytes

-- a digit that is put at a place
pub one_digit : (xs : List ℕ) (i n : ℕ) → n < 10 → i < length xs
    → PutsBytes xs (set xs i (48 + n)) i (i + 1) (decimal n)
one_digit xs i n s l = (
  take_more_set xs i (48 + n) l ∙ ap (λ ds. take i xs ++ ds) (sym (decimal_digit n s)),
  length-set xs i (48 + n),
)

-- the last bytes, as they are cut out
last_block : (bytes : List ℕ) (size last : ℕ) → last + size ≡ length bytes
    → take size (take (length bytes - last) (drop last bytes)) ≡ drop last bytes
last_block bytes size last is =
    let same : length bytes - last ≡ size = omega (arith, is) in
    ap (take size) (take_rest bytes last) ∙ ap (λ (n : ℕ). take n (drop last bytes)) (sym same)
    ∙ take_rest bytes last

-- the first bytes and the last bytes, which may overlap, are all of them
pub both_ends : (r0 r1 r2 bytes front back : List ℕ) (at size last middle end : ℕ)
    → last + size ≡ length bytes → last ≤ size → at ≤ length r0
    → front ≡ take size bytes → back ≡ take size (take (length bytes - last) (drop last bytes))
    → middle ≡ at + length front
    → take middle r1 ≡ take at r0 ++ front → take end r2 ≡ take (at + last) r1 ++ back
    → take end r2 ≡ take at r0 ++ bytes
both_ends r0 r1 r2 bytes front back at size last middle end is few long front-is back-is middle-is
    first second =
    let after : at + last ≤ middle = omega (arith, length-take-le size bytes, ap length front-is) in
    let start : at ≡ length (take at r0) = sym (length-take-le at r0 long) in
    let both : take (at + last) r1 ≡ take at r0 ++ take last bytes =
    sym (take-take (at + last) middle r1 after)
    ∙ ap (take (at + last)) (first ∙ ap (λ (l : List ℕ). take at r0 ++ l) front-is)
    ∙ ap (λ (k : ℕ). take (k + last) (take at r0 ++ take size bytes)) start
    ∙ take-append-add (take at r0) (take size bytes) last
    ∙ ap (λ (l : List ℕ). take at r0 ++ l) (take-take last size bytes few) in
    second ∙ ap (λ (l : List ℕ). take (at + last) r1 ++ l) (back-is ∙ last_block bytes size last is)
    ∙ ap (λ (l : List ℕ). l ++ drop last bytes) both
    ∙ append_assoc (take at r0) (take last bytes) (drop last bytes)
    ∙ ap (λ (l : List ℕ). take at r0 ++ l) (take-append-drop last bytes)
