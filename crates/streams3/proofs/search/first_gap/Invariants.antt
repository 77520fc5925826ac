use Rattle.std.proofs.Common.{◌-◌, ◌≢◌, ◌≤◌, ◌<◌, ℕ, None, length, take}
use Rattle.streams3.specs.Runs.{Lie, spot_of}
use Rattle.streams3.specs.machinery.Log.{end_at}
use Rattle.streams3.proofs.search.first_gap.Given as goal

abbrev pub invariant-loop-begin : goal.invariant-loop-begin
invariant-loop-begin l = record {
  within : l.i ≤ length l.runs;
  least : l.from ≤ l.begin;
  before : Lie 0 l.begin (take l.i l.runs);
  beyond : l.i < length l.runs → l.begin < end_at l.runs l.i;
  known : (p : ℕ) → l.from ≤ p → p < l.begin → spot_of l.runs p ≢ None;
}

abbrev pub decreases-loop-begin : goal.decreases-loop-begin
decreases-loop-begin l = length l.runs - l.i
