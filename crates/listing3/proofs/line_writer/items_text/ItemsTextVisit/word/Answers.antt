use Rattle.listing3.proofs.Common.{refl, [], ◌∷◌, Word}
use Rattle.listing3.proofs.Lines.ItemsTexts.{adds_text, word_size}
use Rattle.listing3.proofs.line_writer.items_text.ItemsTextVisit.word.Goals as goal

pub returns-clause-ok : goal.returns-clause-ok
returns-clause-ok c =
    adds_text c.args.self.now c.word.new.self _ _
    (Word c.args.name.now c.args.n ∷ [])
    (word_size c.args.name.now c.args.n) c.in_ok-word.ensures.ok refl
