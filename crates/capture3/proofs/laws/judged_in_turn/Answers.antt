use Rattle.capture3.proofs.Lemmas.Connections.JudgedInTurn.{is_judged_in_turn}
use Rattle.capture3.proofs.laws.judged_in_turn.Goals as goal

pub returns : goal.returns
returns c streams calls replies = is_judged_in_turn streams calls replies
