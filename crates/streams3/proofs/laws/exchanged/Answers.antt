use Rattle.streams3.proofs.LawsLemmas.{swapped}
use Rattle.streams3.proofs.laws.exchanged.Goals as goal

pub returns : goal.returns
returns c = swapped
