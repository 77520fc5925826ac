use Rattle.std.proofs.Common.{◌∙◌, List, refl, sym, subst, get_or}
use Rattle.std.specs.List.{All}
use Rattle.std.proofs.lemmas.Bool.{false≢true}
use Rattle.std.proofs.lemmas.List.{take_all}
use Rattle.std.proofs.lemmas.List.Elements.{All-more, Contains-get_or}
use Rattle.streams3.specs.declared.runs.Pair.{Pair}
use Rattle.conversion3.specs.machinery.Ordered.{HasSameBytes}
use Rattle.conversion3.proofs.ContentLemmas.{no_pair}
use Rattle.conversion3.proofs.repeated.first_changed.Goals as goal

pub returns-in_err-is_same-clause-more : goal.returns-in_err-is_same-clause-more
returns-in_err-is_same-clause-more g c = λ file allows.
    c.loop-pair.invariant.more file (c.is_same.ensures.more file allows)

pub returns-then-not-branch-clause-more : goal.returns-then-not-branch-clause-more
returns-then-not-branch-clause-more g c = λ file allows.
    c.loop-pair.invariant.more file (c.is_same.ensures.more file allows)

pub returns-then-not-branch-clause-found : goal.returns-then-not-branch-clause-found
returns-then-not-branch-clause-found g c = λ file allows.
    let pairs = c.args.pairs.now in
    let i = c.loop-pair.pair-index in (
      get_or pairs i no_pair,
      Contains-get_or pairs i no_pair c.loop-pair-test.true,
      λ same.
          absurd (false≢true (sym c.if-not-branch.true
          ∙ (c.in_ok-is_same.ensures.same file allows).1 same)),
      refl,
    )

pub loop-pair-preserved : goal.loop-pair-preserved
loop-pair-preserved g c =
    let pairs = c.args.pairs.now in
    let i = c.loop-pair.pair-index in
    record {
      more = λ file allows.
          c.loop-pair.invariant.more file (c.is_same.ensures.more file allows);
      failures = c.in_ok-is_same.ensures.count ∙ c.loop-pair.invariant.failures;
      same = λ file allows.
          All-more (HasSameBytes file) pairs i no_pair c.loop-pair-test.true
          (c.loop-pair.invariant.same file (c.is_same.ensures.more file allows))
          ((c.in_ok-is_same.ensures.same file allows).0 c.if-not-branch.false);
    }

pub returns-clause-found : goal.returns-clause-found
returns-clause-found g c = λ file allows.
    subst (λ (pairs : List Pair). All (HasSameBytes file) pairs)
    (take_all c.loop-pair.pair-index c.args.pairs.now c.loop-pair-test.false)
    (c.loop-pair.invariant.same file allows)
