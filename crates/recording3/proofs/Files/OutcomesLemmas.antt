-- Counts of what frames carry.
use Rattle.std.proofs.Common.{◌≡◌, ◌+◌, ◌-◌, ◌^◌, ◌≤◌, ◌∙◌, List, [], ◌∷◌, ◌++◌, length, refl, sym, ap, subst, Result, Ok, Err, IfOk, IfErr, arith}
use Rattle.std.proofs.lemmas.List.Sums.{fold-append}
use Rattle.std.specs.List.{fold}
use Rattle.std.specs.Result.{MatchResult, OnOk, OnErr}
use Rattle.recording3.specs.Frames.{Extends}
use Rattle.recording3.specs.Outcomes.{HaveOutcomes, IsFullAt, IsOutcome, Tallied, with_outcome, no_outcomes, total}
use Rattle.recording3.specs.Places.{Passed}
use Rattle.recording3.specs.Segments.{IsSegment, LacksSegment}
use Rattle.recording3.specs.declared.outcomes.Tally.{Tally}
use Rattle.recording3.specs.declared.parts.NoSegment.{NoSegment}
use Rattle.recording3.specs.declared.parts.NoSegment.TheVariants as reasons
use Rattle.recording3.specs.declared.parts.Segment.{Segment}

outcomes_more : (passed : List Passed) (os : List (Result Segment NoSegment)) (p : Passed)
    (o : Result Segment NoSegment) → HaveOutcomes passed os → IsOutcome p o
    → HaveOutcomes (passed ++ p ∷ []) (os ++ o ∷ [])
unfolding HaveOutcomes
outcomes_more [] os p o e i =
    (o, [], ap (λ (z : List (Result Segment NoSegment)). z ++ o ∷ []) e, i, refl)
outcomes_more (q ∷ passed) os p o (first, later, e, j, h) i = (
  first,
  later ++ o ∷ [],
  ap (λ (z : List (Result Segment NoSegment)). z ++ o ∷ []) e,
  j,
  outcomes_more passed later p o h i,
)

outcomes_length : (passed : List Passed) (os : List (Result Segment NoSegment))
    → HaveOutcomes passed os → length os ≡ length passed
unfolding HaveOutcomes
outcomes_length [] os e = ap length e
outcomes_length (q ∷ passed) os (first, later, e, j, h) =
    let n = outcomes_length passed later h in let m = ap length e in omega arith

one_more : (t : Tally) (o : Result Segment NoSegment) → total (with_outcome t o) ≡ total t + 1
one_more t (Ok s) = omega arith
one_more t (Err reasons.UnknownLink) = omega arith
one_more t (Err reasons.Cut) = omega arith
one_more t (Err reasons.NotIp) = omega arith
one_more t (Err reasons.BadIp) = omega arith
one_more t (Err reasons.Fragment) = omega arith
one_more t (Err reasons.NotTcp) = omega arith
one_more t (Err reasons.BadTcp) = omega arith

total_more : (t : Tally) (os : List (Result Segment NoSegment))
    → total (fold with_outcome t os) ≡ total t + length os
total_more t [] = omega arith
total_more t (o ∷ os) =
    let n = total_more (with_outcome t o) os in let m = one_more t o in omega arith

pub total_is : (passed : List Passed) (t : Tally) → Tallied passed t → total t ≡ length passed
total_is passed t h =
    let n = total_more no_outcomes h.outcomes in
    let m = outcomes_length passed h.outcomes h.each in ap total h.counts ∙ omega arith

pub tallied_more : (passed : List Passed) (t : Tally) (p : Passed) (o : Result Segment NoSegment)
    → Tallied passed t → IsOutcome p o → Tallied (passed ++ p ∷ []) (with_outcome t o)
tallied_more passed t p o h i =
    record {
      outcomes = h.outcomes ++ o ∷ [];
      each = outcomes_more passed h.outcomes p o h.each i;
      counts = ap (λ (z : Tally). with_outcome z o) h.counts
          ∙ sym (fold-append with_outcome no_outcomes h.outcomes (o ∷ []));
    }

pub outcome_of : (p : Passed) (o : Result Segment NoSegment)
    → IfOk o (IsSegment p.head.link p.octets p.head.wire)
    → IfErr o (LacksSegment p.head.link p.octets p.head.wire) → IsOutcome p o
outcome_of p (Ok s) h g = h
outcome_of p (Err why) h g = g

-- what counting a frame's outcome leaves
pub taken : {X E : Type 0} (r : Result X E) (old new : Tally) (p : Passed)
    (o : Result Segment NoSegment) → IsOutcome p o → OnOk r (new ≡ with_outcome old o)
    → OnErr r ((new ≡ old) × (2 ^ 64 - 1 ≤ total old))
    → MatchResult r
    (λ _. Extends (λ passed. Tallied passed old) (λ passed. Tallied passed new) (p ∷ []))
    (λ _. Extends (λ passed. Tallied passed old) (λ passed. IsFullAt passed new) (p ∷ []))
unfolding Extends
taken (Ok x) old new p o i h g =
    λ before t. subst (λ (z : Tally). Tallied (before ++ p ∷ []) z) (sym h)
    (tallied_more before old p o t i)
taken (Err e) old new p o i h g =
    λ before t. record {
      front = before;
      last = p;
      split = refl;
      tallied = subst (λ (z : Tally). Tallied before z) (sym g.0) t;
      full = subst (λ (z : Tally). 2 ^ 64 - 1 ≤ total z) (sym g.0) g.1;
    }
