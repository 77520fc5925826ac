use Rattle.canon3.proofs.Lemmas.Writing.Visiting.{adds_run}
use Rattle.canon3.proofs.canonical_form.message_writer.MessageWriterVisit.plain.Goals as goal

pub returns : goal.returns
returns g c = record {
  ok =
      adds_run c.args.self.now c.keep.new.self c.args._fields.now c.args.bytes.now _ c.requires
      c.keep.ensures.makes;
  err = tt;
}
