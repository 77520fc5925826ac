use Rattle.listing3.proofs.Common.{refl, length, run_items}
use Rattle.listing3.proofs.Lines.ItemsTexts.{adds_text, plain_size}
use Rattle.listing3.proofs.line_writer.items_text.ItemsTextVisit.plain.Goals as goal

pub returns-clause-ok : goal.returns-clause-ok
returns-clause-ok c =
    let run = c.args.bytes.now in
    adds_text c.args.self.now c.plain.new.self _ _ (run_items c.args.fields.now run)
    (plain_size c.args.fields.now run (length run) c.requires) c.in_ok-plain.ensures.ok refl
