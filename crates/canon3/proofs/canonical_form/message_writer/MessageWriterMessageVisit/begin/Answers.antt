use Rattle.canon3.proofs.Lemmas.Writing.Visiting.{opens}
use Rattle.canon3.proofs.canonical_form.message_writer.MessageWriterMessageVisit.begin.Goals as goal

pub returns : goal.returns
returns g c = opens c.args.self.now c.keep.new.self c.args._start c.keep.ensures.makes
