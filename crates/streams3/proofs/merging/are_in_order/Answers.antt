use Rattle.std.proofs.Common.{subst, add-one, arith}
use Rattle.std.proofs.lemmas.List.{take_all}
use Rattle.streams3.specs.Runs.{Lie}
use Rattle.streams3.specs.machinery.Log.{no_run}
use Rattle.streams3.proofs.RunsLemmas.{lie_more, order_within}
use Rattle.streams3.proofs.LogLemmas.{sound_at}
use Rattle.streams3.proofs.merging.are_in_order.Goals as goal

pub overflow_add-end : goal.overflow_add-end
overflow_add-end c =
    omega (
      arith,
      (sound_at c.loop-run.run-index c.args.runs.now no_run c.requires
          c.loop-run-test.true).1,
    )

pub loop-run-preserved : goal.loop-run-preserved
loop-run-preserved c =
    let rs = c.args.runs.now in
    let i = c.loop-run.run-index in
    record {
      before =
          rw add-one
          (lie_more i rs no_run 0 c.loop-run.end c.loop-run.invariant.before c.loop-run-test.true
          c.if-run-end.false (sound_at i rs no_run c.requires c.loop-run-test.true).0);
      first = λ e. absurd (omega (arith, e));
    }

pub returns-clause-order : goal.returns-clause-order
returns-clause-order c = λ _.
    let rs = c.args.runs.now in
    order_within rs 0 c.loop-run.end (omega arith)
    (subst (Lie 0 c.loop-run.end)
    (take_all c.loop-run.run-index rs (omega (arith, c.loop-run-test.false)))
    c.loop-run.invariant.before) c.requires
