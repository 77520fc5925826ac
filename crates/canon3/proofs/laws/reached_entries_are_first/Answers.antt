use Rattle.canon3.proofs.Lemmas.Order.Reaching.{reached_first}
use Rattle.canon3.proofs.laws.reached_entries_are_first.Goals as goal

pub returns : goal.returns
returns c = reached_first
