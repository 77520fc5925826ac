use Rattle.canon3.proofs.Common.{ap, ◌∙◌, drop, append-nil, arith, common_steps}
use Rattle.canon3.specs.declared.sink.whole_writes.TheConstants.{HEAD}
use Rattle.canon3.proofs.canonical_form.message_writer.MessageWriter.compose_behind_head.Goals as goal

pub returns-clause-message : goal.returns-clause-message
returns-clause-message g c =
    ap (drop HEAD) (append-nil _ ∙ c.in_ok-append.ensures.written) ∙ grind (arith, common_steps)
