use Rattle.std.proofs.Common.{◌-◌, ◌≤◌, ◌<◌, length, take}
use Rattle.streams3.specs.Runs.{Lie}
use Rattle.streams3.specs.machinery.Log.{end_at}
use Rattle.streams3.proofs.search.count_before.Given as goal

abbrev pub invariant-loop-low : goal.invariant-loop-low
invariant-loop-low l = record {
  within : l.high ≤ length l.runs;
  ends : l.low ≤ l.high;
  beyond : l.high < length l.runs → l.at < end_at l.runs l.high;
  before : Lie 0 l.at (take l.low l.runs);
}

abbrev pub decreases-loop-low : goal.decreases-loop-low
decreases-loop-low l = l.high - l.low
