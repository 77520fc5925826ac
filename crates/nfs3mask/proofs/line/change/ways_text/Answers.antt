use Rattle.nfs3mask.proofs.Common.{◌++◌, ◌∙◌, ap, arith, get_or, string_bytes, Times, classes, change_of, change_text, way_of}
use Rattle.nfs3mask.proofs.ChangeLemmas.{told_again, told_more}
use Rattle.nfs3mask.proofs.line.change.ways_text.Goals as goal

pub returns-clause-again : goal.returns-clause-again
returns-clause-again c = told_again c.args.ways (omega arith)

pub returns-in_err-push_change-clause-again : goal.returns-in_err-push_change-clause-again
returns-in_err-push_change-clause-again c = told_again c.args.ways (omega arith)

pub loop-class-preserved : goal.loop-class-preserved
loop-class-preserved c =
    let class = get_or classes c.loop-class.class-index Times in
    told_more (λ k. change_text (change_of k (way_of c.args.ways k)))
    c.loop-class.class-index _ _ c.loop-class-test.true c.loop-class.invariant
    (c.in_ok-push_change.ensures
    ∙ ap (λ way. string_bytes c.loop-class.text ++ change_text (change_of class way)) c.way.ensures)
