-- The decimal text of a number, in digits with leading zeros.
use Rattle.listing3.proofs.Common.{◌≡◌, ℕ, zero, suc, ◌+◌, ◌-◌, ◌*◌, ◌/◌, ◌%◌, ◌^◌, ◌<◌, ◌≤◌, Bool, true, ◌&&◌, T, eqb, List, [], ◌∷◌, ◌++◌, length, take, set, get_or, refl, ap, sym, ◌∙◌, inl, inr, arith, eq-zero-or-pos, eqb→eq, append_assoc, length-set, decimal_digit, decimal_step, take_more_set, decimal}
use lib.Ieee.Fits.{and_l, and_r}
use Rattle.listing3.specs.declared.line_text.decimal.TheConstants.{PAIRS}
use Rattle.listing3.specs.machinery.PutsBytes.{PutsBytes}
use Rattle.listing3.specs.machinery.Digits.{eight_digits, four_digits, two_digits}

-- ---- the table

abbrev are_pairs : ℕ → Bool
are_pairs zero = true
are_pairs (suc p) = (eqb (get_or PAIRS (2 * p) 0) (48 + p / 10)
    && eqb (get_or PAIRS (2 * p + 1) 0) (48 + p % 10)) && are_pairs p

below : (n p : ℕ) → T (are_pairs n) → p < n
    → (get_or PAIRS (2 * p) 0 ≡ 48 + p / 10) × (get_or PAIRS (2 * p + 1) 0 ≡ 48 + p % 10)
below zero p t h = absurd (omega arith)
below (suc n) p t h =
    elim (eq-zero-or-pos (n - p)) [
      | inl z ↦ let e : p ≡ n =
          omega arith in
          let a = and_l _ (are_pairs n) t in
          rw e (eqb→eq _ _ (and_l _ _ a), eqb→eq _ _ (and_r _ _ a))
      | inr g ↦ below n p (and_r _ (are_pairs n) t) (omega arith)
    ]

pair_at : (p : ℕ) → p < 100
    → (get_or PAIRS (2 * p) 0 ≡ 48 + p / 10) × (get_or PAIRS (2 * p + 1) 0 ≡ 48 + p % 10)
pair_at p h = below 100 p tt h

-- a pair of the table that is put at a place
pub pair_written : (xs : List ℕ) (at p : ℕ) → p < 100 → at + 2 ≤ length xs
    → PutsBytes xs
    (set (set xs at (get_or PAIRS (2 * p) 0)) (at + 1) (get_or PAIRS (2 * p + 1) 0))
    at (at + 2) (two_digits p)
pair_written xs at p h l =
    let t = pair_at p h in
    let e : at + 2 ≡ (at + 1) + 1 = omega arith in (
      rw (t.0, t.1, e)
          (take_more_set (set xs at (48 + p / 10)) (at + 1) (48 + p % 10)
          (omega (arith, length-set xs at (48 + p / 10)))
          ∙ ap (λ (l : List ℕ). l ++ (48 + p % 10) ∷ [])
          (take_more_set xs at (48 + p / 10) (omega arith))
          ∙ append_assoc (take at xs) ((48 + p / 10) ∷ []) ((48 + p % 10) ∷ [])),
      length-set (set xs at (get_or PAIRS (2 * p) 0)) (at + 1) (get_or PAIRS (2 * p + 1) 0)
          ∙ length-set xs at (get_or PAIRS (2 * p) 0),
    )

-- ---- decimal text

pub decimal_two : (n : ℕ) → 10 ≤ n → n < 100 → decimal n ≡ two_digits n
decimal_two n lo hi =
    rw (decimal_step n lo (omega arith), decimal_digit (n / 10) (omega arith)) refl

pub decimal_pair : (n : ℕ) → 100 ≤ n → n < 2 ^ 64
    → decimal n ≡ decimal (n / 100) ++ two_digits (n % 100)
decimal_pair n lo hi =
    let a : n / 10 / 10 ≡ n / 100 = omega arith in
    let b : n / 10 % 10 ≡ n % 100 / 10 = omega arith in
    let c : n % 10 ≡ n % 100 % 10 = omega arith in
    rw (
      decimal_step n (omega arith) hi,
      decimal_step (n / 10) (omega arith) (omega arith),
      append_assoc,
      a,
      b,
      ← c,
    ) refl

pub decimal_hundreds : (n h : ℕ) → h ≡ n / 100 → 100 ≤ n → n < 2 ^ 64
    → decimal n ≡ decimal h ++ two_digits (n - 100 * h)
decimal_hundreds n h is lo hi =
    let last : n - 100 * h ≡ n % 100 = omega (arith, is) in
    rw (last, is) (decimal_pair n lo hi)

pub decimal_four : (n : ℕ) → 10000 ≤ n → n < 2 ^ 64
    → decimal n ≡ decimal (n / 10000) ++ four_digits (n % 10000)
decimal_four n lo hi =
    let a : n / 100 / 100 ≡ n / 10000 = omega arith in
    let b : n / 100 % 100 ≡ n % 10000 / 100 = omega arith in
    let c : n % 10000 % 100 ≡ n % 100 = omega arith in
    rw (
      decimal_pair n (omega arith) hi,
      decimal_pair (n / 100) (omega arith) (omega arith),
      append_assoc,
      a,
      b,
      c,
    ) refl

pub decimal_eight : (n : ℕ) → 100000000 ≤ n → n < 2 ^ 64
    → decimal n ≡ decimal (n / 100000000) ++ eight_digits (n % 100000000)
decimal_eight n lo hi =
    let a : n / 10000 / 10000 ≡ n / 100000000 = omega arith in
    let b : n / 10000 % 10000 ≡ n % 100000000 / 10000 = omega arith in
    let c : n % 100000000 % 10000 ≡ n % 10000 = omega arith in
    rw (
      decimal_four n (omega arith) hi,
      decimal_four (n / 10000) (omega arith) (omega arith),
      a,
      b,
      c,
    ) (append_assoc (decimal (n / 100000000)) (four_digits (n % 100000000 / 10000))
    (four_digits (n % 10000)))

-- digits that are put after others
pub after_digits : (old between new : List ℕ) (at middle end : ℕ) (first last all : List ℕ)
    → PutsBytes between new middle end last → PutsBytes old between at middle first
    → all ≡ first ++ last
    → PutsBytes old new at end all
after_digits old between new at middle end first last all second written is = (
  second.0 ∙ ap (λ (l : List ℕ). l ++ last) written.0 ∙ append_assoc (take at old) first last
      ∙ ap (λ (l : List ℕ). take at old ++ l) (sym is),
  second.1 ∙ written.1,
)
