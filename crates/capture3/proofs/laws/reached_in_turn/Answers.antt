use Rattle.capture3.proofs.Lemmas.Reached.ReachedInTurn.{reached_in_turn}
use Rattle.capture3.proofs.laws.reached_in_turn.Goals as goal

pub returns : goal.returns
returns c front back entries are all = reached_in_turn front back are entries all
