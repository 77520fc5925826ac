use Rattle.masking3.proofs.Common.{◌≢◌, ℕ, ◌<◌, get_or, Times, classes, row}
use Rattle.masking3.proofs.values.class.Class.by_name.Given as goal

abbrev pub invariant-loop-class : goal.invariant-loop-class
invariant-loop-class l =
    (k : ℕ) → k < l.class-index → l.name ≢ (row (get_or classes k Times)).name
