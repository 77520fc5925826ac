use Rattle.nfs3mask.proofs.Common.{sym, subst, ◌∙◌, AreChanges}
use Rattle.nfs3mask.proofs.ChangeLemmas.{one_more, says_each}
use Rattle.nfs3mask.proofs.line.change.changed_ways.Goals as goal

pub returns-in-None-clause-err : goal.returns-in-None-clause-err
returns-in-None-clause-err c = λ changes all.
    let said =
    says_each c.args.words.now c.loop-word.word-index c.word-item.result c.loop-word-test.true
    c.word-item.is changes all in
    c.in-None.ensures said.0 (c.as_str.ensures.value ∙ said.1)

pub loop-word-preserved : goal.loop-word-preserved
loop-word-preserved c =
    subst (AreChanges _) (sym c.with-ways.ensures)
    (one_more c.args.words.now c.loop-word.word-index c.word-item.result c.loop-word.ways
    c.in-Some.change c.loop-word-test.true c.word-item.is
    (sym c.as_str.ensures.value ∙ c.in-Some.ensures) c.loop-word.invariant)
