use Rattle.listing3.proofs.Common.{refl, [], ◌∷◌, Handle, Opaque}
use Rattle.listing3.proofs.Lines.ItemsTexts.{adds_text, data_size}
use Rattle.listing3.proofs.line_writer.items_text.ItemsTextVisit.handle.Goals as goal

pub returns-clause-ok : goal.returns-clause-ok
returns-clause-ok c =
    adds_text c.args.self.now c.handle.new.self _ _
    (Opaque Handle c.args.name.now c.args.bytes.now ∷ [])
    (data_size Handle c.args.name.now c.args.bytes.now c.encoded_size.result c.encoded_size.ensures)
    c.in_ok-handle.ensures.ok refl
