-- Bytes that were recorded again, pair by pair and byte by byte.
use Rattle.std.proofs.Common.{◌≡◌, ◌≢◌, ◌<◌, ℕ, zero, suc, ◌+◌, ◌-◌, List, [], ◌∷◌, Option, None, Some, get_or, take, drop, refl, sym, ◌∙◌, ap, subst, arith, ◌⊎◌, inl, inr}
use Rattle.std.specs.List.{All}
use Rattle.std.proofs.lemmas.Bool.{cases_lt}
use Rattle.std.proofs.lemmas.List.{drop-drop}
use Rattle.payload3.specs.Readings.{bytes_at}
use Rattle.payload3.proofs.RecordedLemmas.{same_more}
use Rattle.streams3.specs.declared.runs.Pair.{Pair}
use Rattle.streams3.specs.declared.runs.Run.{Run}
use Rattle.streams3.specs.Repeats.{AreRepeats, Has, IsPaired, IsPartOf, IsRepeat}
use Rattle.streams3.specs.Runs.{spot_in, spot_of}
use Rattle.streams3.specs.machinery.Log.{no_run}
use Rattle.streams3.proofs.RunsLemmas.{has_it, some_none}
use Rattle.conversion3.specs.Whole.{IsAsFirst, byte_at}
use Rattle.conversion3.specs.machinery.Ordered.{HasSameBytes}
use Rattle.conversion3.proofs.SpotLemmas.{has_there}

-- ---- bytes at two offsets

take_one : (size i : ℕ) (xs : List ℕ) → i < size
    → take 1 (drop i (take size xs)) ≡ take 1 (drop i xs)
take_one zero i xs lt = absurd (omega (arith, lt))
take_one (suc size) i [] lt = refl
take_one (suc size) zero (x ∷ xs) lt = refl
take_one (suc size) (suc i) (x ∷ xs) lt = take_one size i xs (omega (arith, lt))

one_of : (file : List ℕ) (at size i : ℕ) → i < size
    → take 1 (drop i (bytes_at file at size)) ≡ bytes_at file (at + i) 1
one_of file at size i lt =
    take_one size i (drop at file) lt ∙ ap (take 1) (drop-drop i at file)

same_byte : (file : List ℕ) (one other size i : ℕ) → i < size
    → bytes_at file one size ≡ bytes_at file other size
    → bytes_at file (one + i) 1 ≡ bytes_at file (other + i) 1
same_byte file one other size i lt same =
    sym (one_of file one size i lt)
    ∙ ap (λ (l : List ℕ). take 1 (drop i l)) same
    ∙ one_of file other size i lt

same_bytes : (file : List ℕ) (one other size : ℕ)
    → ((i : ℕ) → i < size → bytes_at file (one + i) 1 ≡ bytes_at file (other + i) 1)
    → bytes_at file one size ≡ bytes_at file other size
same_bytes file one other zero each = refl
same_bytes file one other (suc size) each =
    let next : suc size ≡ size + 1 = omega arith in
    subst (λ (n : ℕ). bytes_at file one n ≡ bytes_at file other n) (sym next)
    (same_more file one other size 1
    (same_bytes file one other size (λ i lt. each i (omega (arith, lt))))
    (each size (omega arith)))

-- ---- a pair

byte_in : (file : List ℕ) (run : Run) (p : ℕ) → Has run p
    → byte_at file (spot_in run p) ≡ bytes_at file (run.at + (p - run.position)) 1
byte_in file run p has = ap (byte_at file) (has_it run p has.0 has.1)

-- the first bytes of a pair have a position if the others have it
first_has : (log : List Run) (pair : Pair) (p : ℕ) → IsRepeat log pair → Has pair.again p
    → Has pair.first p
first_has log pair p is has = (
  omega (arith, is.position, has.0),
  omega (arith, is.position, is.size, has.1),
)

first_byte : (file : List ℕ) (log : List Run) (pair : Pair) (p : ℕ) → IsRepeat log pair
    → Has pair.again p → byte_at file (spot_of log p)
    ≡ bytes_at file (pair.first.at + (p - pair.again.position)) 1
first_byte file log pair p is has =
    let own = first_has log pair p is has in
    ap (byte_at file) (is.first p own)
    ∙ byte_in file pair.first p own
    ∙ ap (λ (n : ℕ). bytes_at file (pair.first.at + (p - n)) 1) is.position

-- a pair with the same bytes has the first at each position
as_first : (file : List ℕ) (log : List Run) (pair : Pair) → IsRepeat log pair
    → HasSameBytes file pair → IsAsFirst file log pair.again
as_first file log pair is same p has =
    byte_in file pair.again p has
    ∙ sym (same_byte file pair.first.at pair.again.at pair.again.size (p - pair.again.position)
    (omega (arith, has.0, has.1)) same)
    ∙ sym (first_byte file log pair p is has)

-- and one that has the first at each position has the same bytes
has_same : (file : List ℕ) (log : List Run) (pair : Pair) → IsRepeat log pair
    → IsAsFirst file log pair.again → HasSameBytes file pair
has_same file log pair is alike =
    same_bytes file pair.first.at pair.again.at pair.again.size
    (λ i lt.
    let p = pair.again.position + i in
    let has : Has pair.again p = (omega arith, omega (arith, lt)) in
    let at : p - pair.again.position ≡ i = omega arith in
    let both =
    sym (first_byte file log pair p is has) ∙ sym (alike p has)
    ∙ byte_in file pair.again p has in
    subst
    (λ (n : ℕ). bytes_at file (pair.first.at + n) 1 ≡ bytes_at file (pair.again.at + n) 1) at both)

-- ---- all pairs

record Found (Q : Pair → Type 0) (run : Run) (p : ℕ) : Type 0 where
  pub pair : Pair
  pub spot : spot_in pair.again p ≡ spot_in run p
  pub holds : Q pair

found : (Q : Pair → Type 0) (pairs : List Pair) (run : Run) (p : ℕ) → IsPaired pairs run p
    → All Q pairs → Found Q run p
found Q [] run p paired all = absurd paired
found Q (pair ∷ pairs) run p paired all =
    elim paired [
      | inl here ↦ record { pair = pair; spot = here; holds = all 0 pair (omega arith) }
      | inr later ↦
          found Q pairs run p later (λ k d lt. all (suc k) d (omega (arith, lt)))
    ]

abbrev IsSamePair : (file : List ℕ) → List Run → Pair → Type 0
IsSamePair file log pair = IsRepeat log pair × HasSameBytes file pair

paired_is : (file : List ℕ) (log : List Run) (run : Run) (p : ℕ) → Has run p
    → Found (IsSamePair file log) run p
    → byte_at file (spot_in run p) ≡ byte_at file (spot_of log p)
paired_is file log run p has f =
    let there : Has f.pair.again p =
    has_there f.pair.again p (run.at + (p - run.position), run.frame)
    (f.spot ∙ has_it run p has.0 has.1) in
    ap (byte_at file) (sym f.spot) ∙ as_first file log f.pair f.holds.0 f.holds.1 p there

-- two numbers are the same or not
same_or_not : (a b : ℕ) → (a ≡ b) ⊎ (a ≢ b)
same_or_not a b =
    elim (cases_lt a b) [
      | inl lt ↦ inr (λ e. omega (arith, lt, e))
      | inr le ↦ elim (cases_lt b a) [
        | inl lt ↦ inr (λ e. omega (arith, lt, e))
        | inr ge ↦ inl (omega (arith, le, ge))
      ]
    ]

abbrev at_of : Option (ℕ × ℕ) → ℕ
at_of None = 0
at_of (Some spot) = spot.0

-- a byte that lies elsewhere than the first is in a pair
byte_is : (file : List ℕ) (log : List Run) (pairs : List Pair) (run : Run) (p : ℕ) → Has run p
    → (spot_in run p ≢ spot_of log p → IsPaired pairs run p) → All (IsSamePair file log) pairs
    → (spot : Option (ℕ × ℕ)) → spot_of log p ≡ spot
    → byte_at file (spot_in run p) ≡ byte_at file (spot_of log p)
byte_is file log pairs run p has paired all None is =
    paired_is file log run p has
    (found (IsSamePair file log) pairs run p
    (paired (λ e. absurd (some_none (run.at + (p - run.position), run.frame)
    (sym (has_it run p has.0 has.1) ∙ e ∙ is)))) all)
byte_is file log pairs run p has paired all (Some spot) is =
    elim (same_or_not (run.at + (p - run.position)) spot.0) [
      | inl same ↦
          byte_in file run p has
          ∙ ap (λ (n : ℕ). bytes_at file n 1) same
          ∙ ap (byte_at file) (sym is)
      | inr other ↦
          paired_is file log run p has
          (found (IsSamePair file log) pairs run p
          (paired (λ e. other (ap at_of (sym (has_it run p has.0 has.1) ∙ e ∙ is)))) all)
    ]

-- what came again is the same if the pairs have the same bytes
pub all_as_first : (file : List ℕ) (log : List Run) (pairs : List Pair) → AreRepeats log pairs
    → All (HasSameBytes file) pairs → All (IsAsFirst file log) log
all_as_first file log pairs repeats same = λ k d lt p has.
    byte_is file log pairs (get_or log k d) p has (repeats.all k d lt p has)
    (λ j e less. (repeats.only j e less, same j e less)) (spot_of log p) refl

-- ---- a pair with other bytes

part_is : (file : List ℕ) (log runs : List Run) (part : Run) → IsPartOf runs part
    → All (IsAsFirst file log) runs → IsAsFirst file log part
part_is file log [] part is all = absurd is
part_is file log (run ∷ runs) part is all =
    elim is [
      | inl same ↦ λ p has.
          let own : Has run p =
          has_there run p (part.at + (p - part.position), part.frame)
          (same p has ∙ has_it part p has.0 has.1) in
          ap (byte_at file) (sym (same p has)) ∙ all 0 run (omega arith) p own
      | inr later ↦ part_is file log runs part later (λ k d lt. all (suc k) d (omega (arith, lt)))
    ]

pub record IsChanged (file : List ℕ) (log : List Run) (run : Run) : Type 0 where
  pub part : IsPartOf log run
  pub other : IsAsFirst file log run → ⊥
  pub broken : All (IsAsFirst file log) log → ⊥

pub is_changed : (file : List ℕ) (log : List Run) (pair : Pair) → IsRepeat log pair
    → (HasSameBytes file pair → ⊥) → IsChanged file log pair.again
is_changed file log pair is differs =
    let other : IsAsFirst file log pair.again → ⊥ =
    λ alike. differs (has_same file log pair is alike) in
    record {
      part = is.again;
      other = other;
      broken = λ all. other (part_is file log log pair.again is.again all);
    }

abbrev pub no_pair : Pair
no_pair = record { first = no_run; again = no_run }
