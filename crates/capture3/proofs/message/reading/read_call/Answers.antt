use Rattle.capture3.proofs.Lemmas.Messages.ValueNames.{∥∥₁_elim, ⊥_prop}
use Rattle.capture3.proofs.Lemmas.Messages.ValueLemmas.{call_has_procedure}
use Rattle.capture3.proofs.message.reading.read_call.Goals as goal

pub unreachable-requires-in-Err-Stop : goal.unreachable-requires-in-Err-Stop
unreachable-requires-in-Err-Stop c =
    ∥∥₁_elim c.requires.spells ⊥_prop
    (λ s. c.in-Err-Stop.ensures.err c.in-Err-Stop.field-0-0 c.in-Err-Stop.field-0-is s.0 s.1)

pub returns-clause-procedure : goal.returns-clause-procedure
returns-clause-procedure c =
    call_has_procedure c.args.id c.args.body.now c.in-Ok.message c.in-Ok.ensures.call
    c.requires.spells
