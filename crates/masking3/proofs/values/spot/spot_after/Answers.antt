use Rattle.masking3.proofs.Common.{sym, ◌∙◌, Word}
use Rattle.masking3.proofs.Lemmas.Classes.SpotLemmas.{still}
use Rattle.masking3.proofs.values.spot.spot_after.Goals as goal

pub returns-in-Some : goal.returns-in-Some
returns-in-Some c =
    sym (still c.args.spot (Word c.args.name.now c.args.n) c.in-Some.field-0
    (sym c.requires ∙ c.in-Some.is))
