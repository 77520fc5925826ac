use Rattle.listing3.proofs.Common.{refl, [], ◌∷◌, Fixed}
use Rattle.listing3.proofs.Lines.ItemsTexts.{adds_text, fixed_size}
use Rattle.listing3.proofs.line_writer.items_text.ItemsTextVisit.fixed.Goals as goal

pub returns-clause-ok : goal.returns-clause-ok
returns-clause-ok c =
    adds_text c.args.self.now c.fixed.new.self _ _
    (Fixed c.args.name.now c.args.bytes.now ∷ [])
    (fixed_size c.args.name.now c.args.bytes.now) c.in_ok-fixed.ensures.ok refl
