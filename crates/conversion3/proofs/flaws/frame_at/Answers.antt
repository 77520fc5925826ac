use Rattle.std.proofs.Common.{◌+◌, ◌-◌, arith}
use Rattle.streams3.specs.machinery.Log.{no_run, nth_run}
use Rattle.conversion3.proofs.SpotLemmas.{found_at, none_more}
use Rattle.conversion3.proofs.flaws.frame_at.Goals as goal
use Rattle.conversion3.proofs.flaws.frame_at.Goals.{else-run-position-via-then-run-position+else-position-run, else-run-position-via-else-run-position}

pub returns-then-position-run : goal.returns-then-position-run
returns-then-position-run c =
    let runs = c.args.runs.now in
    let i = c.loop-run.run-index in
    let run = nth_run runs i in (
      run.at + (c.args.position - run.position),
      found_at runs i no_run c.args.position c.loop-run-test.true c.loop-run.invariant
          (c.if-run-position.true, omega (arith, c.if-run-position.true, c.if-position-run.true)),
    )

pub loop-run-preserved : goal.loop-run-preserved
loop-run-preserved c =
    let runs = c.args.runs.now in
    let i = c.loop-run.run-index in
    none_more runs i no_run c.args.position c.loop-run-test.true c.loop-run.invariant
    (λ has.
    elim c.else-run-position.branch [
      | else-run-position-via-then-run-position+else-position-run w ↦
          omega (arith, has.0, has.1, w.if-position-run.false)
      | else-run-position-via-else-run-position w ↦ omega (arith, has.0, w.if-run-position.false)
    ])
