use Rattle.streams3.proofs.LawsLemmas.{one_stream}
use Rattle.streams3.proofs.laws.one_answer.Goals as goal

pub returns : goal.returns
returns c = one_stream
