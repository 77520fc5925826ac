use Rattle.canon3.proofs.Common.{◌≡◌, List, ℕ, None, Option, Observed, failure_of, loan_of, source_of, entries_left, Entry}
use Rattle.canon3.specs.machinery.WritingSteps.{HasGiven, HasWritten, since}
use Rattle.canon3.proofs.Lemmas.Writing.EntryWriterLemmas.{IsWriting}
use Rattle.canon3.proofs.entries.entry_writer.write_rest.Given as goal

abbrev pub invariant-loop-entry : goal.invariant-loop-entry
invariant-loop-entry g l = record {
  going : failure_of l.entries ≡ None;
  under_way : (start : Observed) (handed : List Entry) (old : Option (List ℕ))
      → HasGiven (since g.R.Source.observed start l.fn.entries) handed
      → HasWritten g.E.EntryWriter.form g.E.EntryWriter.before g.E.MessageVisit.rests
      g.E.EntryWriter.going l.fn.writer (old, g.W.Sink.written l.fn.sink) handed
      → IsWriting (since g.R.Source.observed start l.entries)
      (HasWritten g.E.EntryWriter.form g.E.EntryWriter.before g.E.MessageVisit.rests
      g.E.EntryWriter.going l.writer (old, g.W.Sink.written l.sink)) handed;
  read : g.R.Source.failures (source_of l.entries) ≡ g.R.Source.failures (source_of l.fn.entries);
  write : g.W.Sink.failures l.sink ≡ g.W.Sink.failures l.fn.sink;
  same_reference : loan_of l.entries ≡ loan_of l.fn.entries;
}

abbrev pub decreases-loop-entry : goal.decreases-loop-entry
decreases-loop-entry g l = entries_left l.entries
