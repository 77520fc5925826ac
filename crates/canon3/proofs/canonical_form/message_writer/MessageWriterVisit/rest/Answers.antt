use Rattle.canon3.proofs.Lemmas.Writing.Visiting.{adds_rest}
use Rattle.canon3.proofs.canonical_form.message_writer.MessageWriterVisit.rest.Goals as goal

pub returns-clause-ok : goal.returns-clause-ok
returns-clause-ok g c =
    adds_rest c.args.self.now c.keep.new.self c.args._name.now c.args.bytes.now c.keep.ensures.makes
