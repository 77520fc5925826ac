use Rattle.masking3.proofs.Common.{◌≡◌, ℕ, ◌+◌, ◌-◌, [], length, get_or}
use Rattle.masking3.proofs.values.class_tables.ClassTables.make_tables.Given as goal

abbrev pub invariant-loop-self : goal.invariant-loop-self
invariant-loop-self g l = record {
  ways : l.self.ways ≡ l.initial.self.ways;
  same : (at : ℕ) → get_or l.self.numbers.items at [] ≡ get_or l.initial.self.numbers.items at [];
}

abbrev pub decreases-loop-self : goal.decreases-loop-self
decreases-loop-self g l = l.place + 1 - length l.self.numbers.items
