use Rattle.std.proofs.Common.{◌≡◌, ◌≤◌, ◌<◌, ◌+◌, ◌-◌, ℕ, List, Ok, Option, IfSome, false, refl, subst, ap, ◌∙◌, arith}
use Rattle.std.proofs.lemmas.Bool.{iff_false}
use Rattle.payload3.specs.Readings.{Allow, bytes_at}
use Rattle.payload3.proofs.RecordedLemmas.{differ_later, same_more}
use Rattle.payload3.proofs.recorded.Recorded.is_same.Goals as goal

pub parts-preserved : goal.parts-preserved
parts-preserved g c =
    let pair = c.args.pair.now in
    let done = c.parts.done in
    let part =
    subst
    (λ (found : Option ℕ).
    IfSome found (λ n. (0 < n) × (n ≤ pair.again.size - done)
    × ((file : List ℕ) → Allow c.same_part.new.self.readings file
    → bytes_at file (pair.first.at + done) n ≡ bytes_at file (pair.again.at + done) n)))
    c.in-Some.is c.in_ok-count.ensures.some in
    let n = c.in-Some.count in
    record {
      more = λ file allows. c.parts.invariant.more file (c.same_part.ensures.more file allows);
      failures = c.in_ok-count.ensures.count ∙ c.parts.invariant.failures;
      within = omega (arith, part.1, c.parts-test.true);
      same = λ file allows.
          same_more file pair.first.at pair.again.at done n
          (c.parts.invariant.same file (c.same_part.ensures.more file allows))
          (part.2 file allows);
    }

pub returns-in_err-count-clause-more : goal.returns-in_err-count-clause-more
returns-in_err-count-clause-more g c = λ file allows.
    c.parts.invariant.more file (c.same_part.ensures.more file allows)

pub returns-in-None-clause-more : goal.returns-in-None-clause-more
returns-in-None-clause-more g c = λ file allows.
    c.parts.invariant.more file (c.same_part.ensures.more file allows)

pub returns-in-None-clause-same : goal.returns-in-None-clause-same
returns-in-None-clause-same g c = λ file allows.
    let pair = c.args.pair.now in
    let done = c.parts.done in
    let none = c.in_ok-count.ensures.none (ap Ok c.in-None.is) in
    let later =
    differ_later file pair.first.at pair.again.at done none.0 pair.again.size
    (omega (arith, none.1, c.parts-test.true))
    (none.2 file allows) in (
      (λ is. absurd (iff_false {b = false} ((λ e. e), (λ e. e)) refl is)),
      (λ same. absurd (later same)),
    )
