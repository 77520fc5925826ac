use Rattle.std.proofs.Common.{◌≡◌, ◌≤◌, ℕ, ◌-◌, List}
use Rattle.payload3.specs.Readings.{Allow, bytes_at}
use Rattle.payload3.proofs.recorded.Recorded.is_same.Given as goal

abbrev pub invariant-parts : goal.invariant-parts
invariant-parts g l = record {
  more : (file : List ℕ) → Allow l.self.readings file → Allow l.fn.self.readings file;
  failures : l.self.failures ≡ l.fn.self.failures;
  within : l.done ≤ l.pair.again.size;
  same : (file : List ℕ) → Allow l.self.readings file
      → bytes_at file l.pair.first.at l.done ≡ bytes_at file l.pair.again.at l.done;
}

abbrev pub decreases-parts : goal.decreases-parts
decreases-parts g l = l.pair.again.size - l.done
