use Rattle.streams3.proofs.LawsLemmas.{twice}
use Rattle.streams3.proofs.laws.doubled.Goals as goal

pub returns : goal.returns
returns c = twice
