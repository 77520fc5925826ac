use Rattle.listing3.proofs.Common.{refl, [], ◌∷◌, Opaque, Text}
use Rattle.listing3.proofs.Lines.ItemsTexts.{adds_text, data_size}
use Rattle.listing3.proofs.line_writer.items_text.ItemsTextVisit.text.Goals as goal

pub returns-clause-ok : goal.returns-clause-ok
returns-clause-ok c =
    adds_text c.args.self.now c.text.new.self _ _
    (Opaque Text c.args.name.now c.args.bytes.now ∷ [])
    (data_size Text c.args.name.now c.args.bytes.now c.encoded_size.result c.encoded_size.ensures)
    c.in_ok-text.ensures.ok refl
