use Rattle.listing3.proofs.Common.{refl, [], ◌∷◌, Hyper}
use Rattle.listing3.proofs.Lines.ItemsTexts.{adds_text, hyper_size}
use Rattle.listing3.proofs.line_writer.items_text.ItemsTextVisit.hyper.Goals as goal

pub returns-clause-ok : goal.returns-clause-ok
returns-clause-ok c =
    adds_text c.args.self.now c.hyper.new.self _ _
    (Hyper c.args.name.now c.args.n ∷ [])
    (hyper_size c.args.name.now c.args.n) c.in_ok-hyper.ensures.ok refl
