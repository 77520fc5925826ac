use Rattle.canon3.proofs.Lemmas.Writing.Visiting.{adds_fixed}
use Rattle.canon3.proofs.canonical_form.message_writer.MessageWriterVisit.fixed.Goals as goal

pub returns-clause-ok : goal.returns-clause-ok
returns-clause-ok g c =
    adds_fixed c.args.self.now c.keep.new.self c.args._name.now c.args.bytes.now
    c.keep.ensures.makes
