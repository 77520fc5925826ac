use Rattle.canon3.proofs.Lemmas.Writing.Visiting.{adds_empty_handle, is_none}
use Rattle.canon3.proofs.canonical_form.message_writer.MessageWriterVisit.handle.Goals as goal

pub returns-then-is_empty-clause-ok : goal.returns-then-is_empty-clause-ok
returns-then-is_empty-clause-ok g c =
    adds_empty_handle c.args.self.now c.keep.new.self c.args._name.now c.args.bytes.now
    (is_none c.args.bytes.now c.is_empty.result c.is_empty.ensures c.if-is_empty.true)
    c.keep.ensures.makes
