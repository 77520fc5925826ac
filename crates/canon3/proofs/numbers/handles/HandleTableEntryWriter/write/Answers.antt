use Rattle.canon3.proofs.Common.{List, subst, sym, Item, all_items, Gathers}
use Rattle.capture3.proofs.Lemmas.Reader.ObservedLemmas.{plainly_heard}
use Rattle.canon3.proofs.Lemmas.Progress.SummaryLemmas.{items_with_last}
use Rattle.canon3.proofs.numbers.handles.HandleTableEntryWriter.write.Goals as goal

pub returns-clause-writes : goal.returns-clause-writes
returns-clause-writes g c old entries one next observed written = (
  tt,
  subst (λ (l : List Item). Gathers c.args.self.now l) (sym (items_with_last entries one))
      (plainly_heard Gathers c.args.self.now (all_items entries) one observed),
  written,
)
