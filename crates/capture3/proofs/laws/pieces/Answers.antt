use Rattle.capture3.proofs.Common.{Runs, after-append, file_next, file_start}
use Rattle.capture3.proofs.laws.pieces.Goals as goal

pub returns : goal.returns
returns c front back = after-append file_next (Runs file_start) front back
