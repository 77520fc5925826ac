use Rattle.canon3.proofs.Lemmas.Writing.Visiting.{adds_hyper}
use Rattle.canon3.proofs.canonical_form.message_writer.MessageWriterVisit.hyper.Goals as goal

pub returns-clause-ok : goal.returns-clause-ok
returns-clause-ok g c =
    adds_hyper c.args.self.now c.keep.new.self c.args._name.now c.args._n c.keep.ensures.makes
