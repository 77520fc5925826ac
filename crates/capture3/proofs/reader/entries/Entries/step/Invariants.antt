use Rattle.capture3.proofs.Common.{◌≡◌, ◌≤◌, ◌+◌, ◌-◌, List, ℕ, Entry, Two, most_bytes, entries_left, HasRead, StandsFor}
use Rattle.capture3.specs.declared.reader.entries.ReaderStage.TheVariants.{Reading}
use Rattle.capture3.specs.Entries.{block_size}
use Rattle.capture3.proofs.reader.entries.Entries.step.Given as goal

abbrev pub invariant-loop-self : goal.invariant-loop-self
invariant-loop-self g l = record {
  reading : l.self.stage ≡ Reading;
  has_read : (given : List ℕ) (handed : List Entry)
      → StandsFor g.R.Source.observed l.initial.self given handed
      → HasRead g.R.Source.observed l.initial.self l.self given handed;
  unmoved : l.visitor ≡ l.initial.visitor;
  fewer : entries_left l.self ≤ entries_left l.initial.self;
  read : g.R.Source.failures l.self.source.now ≡ g.R.Source.failures l.initial.self.source.now;
  same_block : block_size l.self ≡ block_size l.initial.self;
  same_reference : l.self.source.ghost_name ≡ l.initial.self.source.ghost_name;
}

abbrev pub decreases-loop-self : goal.decreases-loop-self
decreases-loop-self g l = most_bytes Two + 2 - l.self.judged
