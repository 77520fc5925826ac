use Rattle.record_mark.proofs.Machines.{after-append}
use Rattle.record_mark.proofs.laws.pieces.Goals as goal

pub returns : goal.returns
returns g c = after-append
