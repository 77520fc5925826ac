use Rattle.std.proofs.Common.{◌≡◌, take}
use Rattle.streams3.specs.Runs.{Lie}
use Rattle.streams3.proofs.merging.are_in_order.Given as goal

abbrev pub invariant-loop-run : goal.invariant-loop-run
invariant-loop-run l = record {
  before : Lie 0 l.end (take l.run-index l.runs);
  first : l.run-index ≡ 0 → l.end ≡ 0;
}
