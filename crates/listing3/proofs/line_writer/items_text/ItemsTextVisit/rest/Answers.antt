use Rattle.listing3.proofs.Common.{refl, [], ◌∷◌, Rest}
use Rattle.listing3.proofs.Lines.ItemsTexts.{adds_text, rest_size}
use Rattle.listing3.proofs.line_writer.items_text.ItemsTextVisit.rest.Goals as goal

pub returns-clause-ok : goal.returns-clause-ok
returns-clause-ok c =
    adds_text c.args.self.now c.rest.new.self _ _
    (Rest c.args.name.now c.args.bytes.now ∷ [])
    (rest_size c.args.name.now c.args.bytes.now) c.in_ok-rest.ensures.ok refl
