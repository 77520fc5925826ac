use Rattle.canon3.proofs.Common.{on_ok_weaker}
use Rattle.canon3.proofs.Lemmas.Writing.Visiting.{adds_padded_run, adds_whole_run}
use Rattle.canon3.proofs.canonical_form.message_writer.MessageWriter.note_run.Goals as goal

pub returns-in-0 : goal.returns-in-0
returns-in-0 g c kind name bytes plain size =
    adds_whole_run c.args.self.now c.keep.new.self kind name bytes c.args.len c.residue.result plain
    size c.residue.ensures c.in-0.is c.keep.ensures.makes

pub returns-in_default : goal.returns-in_default
returns-in_default g c kind name bytes plain size =
    on_ok_weaker c.zero.result
    (adds_padded_run c.args.self.now c.zero.new.self c.keep.new.self kind name bytes c.args.len
    c.residue.result plain size c.residue.ensures c.keep.ensures.makes)
    c.zero.ensures.ok
