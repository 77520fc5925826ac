use Rattle.listing3.proofs.Common.{refl, [], ◌∷◌, WriteVerf}
use Rattle.listing3.proofs.Lines.ItemsTexts.{adds_text, verf_size}
use Rattle.listing3.proofs.line_writer.items_text.ItemsTextVisit.write_verf.Goals as goal

pub returns-clause-ok : goal.returns-clause-ok
returns-clause-ok c =
    adds_text c.args.self.now c.write_verf.new.self _ _
    (WriteVerf c.args.name.now c.args.bytes.now ∷ [])
    (verf_size c.args.name.now c.args.bytes.now) c.in_ok-write_verf.ensures.ok refl
