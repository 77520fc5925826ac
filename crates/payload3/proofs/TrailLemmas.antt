-- The trail of a payload, which begins with its runs.
use Rattle.std.proofs.Common.{◌≡◌, ℕ, List, [], ◌∷◌, ◌++◌, length, refl, ap, ◌∙◌, arith}
use Rattle.std.proofs.lemmas.List.{append-nil}
use Rattle.streams3.specs.declared.runs.Run.{Run}
use Rattle.payload3.specs.Readings.{Allow, OffsetRead, PayloadReads, octets_in, trail_of}

-- ---- what a trail says

pub record AreSameRuns (one other : List Run) (some bytes : List ℕ) : Type 0 where
  pub runs : one ≡ other
  pub given : some ≡ bytes

same_run : {p q a b s t f g : ℕ} → p ≡ q → a ≡ b → s ≡ t → f ≡ g →
    let R : Type 0 = Run in
    let one : R = record { position = p; at = a; size = s; frame = f } in
    let two : R = record { position = q; at = b; size = t; frame = g } in
    one ≡ two
same_run p a s f = cc

same_numbers : (one other : List Run) (given bytes : List ℕ) → length one ≡ length other
    → octets_in one ++ given ≡ octets_in other ++ bytes → AreSameRuns one other given bytes
same_numbers [] [] given bytes size is = record { runs = refl; given = is }
same_numbers [] (b ∷ other) given bytes size is = absurd (omega (arith, size))
same_numbers (a ∷ one) [] given bytes size is = absurd (omega (arith, size))
same_numbers (a ∷ one) (b ∷ other) given bytes size is =
    let position : a.position ≡ b.position = cc in
    let at : a.at ≡ b.at = cc in
    let count : a.size ≡ b.size = cc in
    let frame : a.frame ≡ b.frame = cc in
    let later : octets_in one ++ given ≡ octets_in other ++ bytes = cc in
    let rest = same_numbers one other given bytes (omega (arith, size)) later in
    let run : a ≡ b = same_run position at count frame in
    let all = rest.runs in
    record { runs = cc; given = rest.given }

-- A payload that gave nothing before has the same runs after bytes were appended to its trail, and
-- gave these.
pub same_runs : (old new : PayloadReads) (bytes : List ℕ) → old.given ≡ []
    → trail_of new ≡ trail_of old ++ bytes → AreSameRuns new.runs old.runs new.given bytes
same_runs old new bytes none is =
    let size : length new.runs ≡ length old.runs = cc in
    let front : octets_in old.runs ++ old.given ≡ octets_in old.runs =
    ap (λ (l : List ℕ). octets_in old.runs ++ l) none ∙ append-nil (octets_in old.runs) in
    let tail : octets_in new.runs ++ new.given ≡ (octets_in old.runs ++ old.given) ++ bytes =
    cc in
    same_numbers new.runs old.runs new.given bytes size
    (tail ∙ ap (λ (l : List ℕ). l ++ bytes) front)

-- ---- reads of several parts

pub allow_append : (file : List ℕ) (some more : List OffsetRead) → Allow (some ++ more) file
    → Allow some file × Allow more file
allow_append file [] more allows = (tt, allows)
allow_append file (one ∷ some) more allows =
    let both = allow_append file some more allows.1 in ((allows.0, both.0), both.1)
