use Rattle.std.proofs.Common.{◌+◌, ◌-◌, ◌/◌, ◌<◌, ◌≤◌, ◌^◌, length, take, suc, arith, add-one}
use Rattle.streams3.specs.Runs.{Lie}
use Rattle.streams3.specs.machinery.Log.{nth_run, no_run}
use Rattle.streams3.proofs.RunsLemmas.{lie_high, lie_upto}
use Rattle.streams3.proofs.search.count_before.Goals as goal

pub loop-low-preserved-then-end_of-at : goal.loop-low-preserved-then-end_of-at
loop-low-preserved-then-end_of-at c =
    let rs = c.args.runs.now in
    let i = c.loop-low.low + (c.loop-low.high - c.loop-low.low) / 2 in
    let lt : i < length rs = omega (arith, c.loop-low.invariant.within, c.loop-low-test.true) in
    let le : (nth_run rs i).position + (nth_run rs i).size ≤ c.args.at =
    omega (arith, c.end_of.ensures, c.if-end_of-at.true) in
    let upto : Lie 0 ((nth_run rs i).position + (nth_run rs i).size) (take (suc i) rs) =
    lie_upto i rs no_run 0 (2 ^ 63) c.requires lt in
    let before : Lie 0 c.args.at (take (suc i) rs) =
    lie_high (take (suc i) rs) 0 ((nth_run rs i).position + (nth_run rs i).size) c.args.at le upto
    in
    record {
      within = c.loop-low.invariant.within;
      beyond = c.loop-low.invariant.beyond;
      ends = omega (arith, c.loop-low-test.true);
      before = rw add-one before;
    }
