use Rattle.masking3.proofs.Common.{◌≡◌, ℕ, ◌<◌, length, get_or, Keep, Times, classes, row}
use Rattle.masking3.proofs.values.ways.Ways.usual.Given as goal

abbrev pub invariant-loop-i : goal.invariant-loop-i
invariant-loop-i l = record {
  long : length l.by_class ≡ 13;
  each : (k : ℕ) → k < l.i → get_or l.by_class k Keep ≡ (row (get_or classes k Times)).usual;
}
