use Rattle.streams3.proofs.LawsLemmas.{are_bytes}
use Rattle.streams3.proofs.laws.stream_bytes.Goals as goal

pub returns : goal.returns
returns c = are_bytes
