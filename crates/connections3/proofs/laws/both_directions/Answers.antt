use Rattle.connections3.proofs.EndsLemmas.{ends_turned, sender_turned}
use Rattle.connections3.proofs.laws.both_directions.Goals as goal

pub returns : goal.returns
returns c = record { ends = ends_turned; sender = sender_turned }
