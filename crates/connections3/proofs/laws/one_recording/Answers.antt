use Rattle.connections3.proofs.LawsLemmas.{one_recording}
use Rattle.connections3.proofs.laws.one_recording.Goals as goal

pub returns : goal.returns
returns c = one_recording
