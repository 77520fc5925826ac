use Rattle.capture3.proofs.Common.{ap, ◌∙◌}
use Rattle.capture3.proofs.Lemmas.Messages.SpelledLemmas.{one_call}
use Rattle.capture3.specs.Entry.{Call}
use Rattle.capture3.specs.MessageValues.{call_items}
use Rattle.capture3.proofs.reader.entry.LentEntry.read.Goals as goal

pub returns-in-Call-clause-value : goal.returns-in-Call-clause-value
returns-in-Call-clause-value c entry lent =
    let (items, is, procedure, same) = rw c.in-Call.is at lent in
    same ∙ ap Call
    (one_call c.in-Call.call.body.now items (call_items c.read.result) is
    c.read.ensures.call)
