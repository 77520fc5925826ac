use Rattle.uses.proofs.Common.{◌≡◌, ◌≤◌, ◌+◌, None, count_by, failure_of, source_of, entries_left, is_call_of}
use Rattle.capture3.specs.Laws.{most_entries}
use Rattle.uses.proofs.Reading.{HasReturned}
use Rattle.uses.proofs.counting.count_calls.Given as goal

abbrev pub invariant-loop-entries : goal.invariant-loop-entries
invariant-loop-entries g l = record {
  going : failure_of l.entries ≡ None;
  room : l.count + entries_left l.entries ≤ most_entries;
  returned : HasReturned g.R.Source.observed (g.R.Source.observed (source_of l.initial.entries))
      l.entries
      (λ handed. l.count ≡ count_by (is_call_of l.procedure) handed);
}

abbrev pub decreases-loop-entries : goal.decreases-loop-entries
decreases-loop-entries g l = entries_left l.entries
