use Rattle.packing3.proofs.Common.{◌≡◌, ◌≤◌, ◌-◌, length, take, Gave}
use Rattle.packing3.proofs.block.fill.Given as goal

abbrev pub invariant-loop-filled : goal.invariant-loop-filled
invariant-loop-filled g l = record {
  within : l.filled ≤ length l.block;
  size : length l.block ≡ length l.fn.block;
  bytes : Gave (g.R.Source.observed l.fn.source) (g.R.Source.observed l.source)
      (take l.filled l.block);
  count : g.R.Source.failures l.source ≡ g.R.Source.failures l.fn.source;
}

abbrev pub decreases-loop-filled : goal.decreases-loop-filled
decreases-loop-filled g l = length l.block - l.filled
