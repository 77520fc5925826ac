use Rattle.std.proofs.Common.{◌≡◌, ℕ, List, take}
use Rattle.std.specs.List.{All}
use Rattle.payload3.specs.Readings.{Allow}
use Rattle.conversion3.specs.machinery.Ordered.{HasSameBytes}
use Rattle.conversion3.proofs.repeated.first_changed.Given as goal

abbrev pub invariant-loop-pair : goal.invariant-loop-pair
invariant-loop-pair g l = record {
  more : (file : List ℕ) → Allow l.recorded.readings file → Allow l.fn.recorded.readings file;
  failures : l.recorded.failures ≡ l.fn.recorded.failures;
  same : (file : List ℕ) → Allow l.recorded.readings file
      → All (HasSameBytes file) (take l.pair-index l.pairs);
}
