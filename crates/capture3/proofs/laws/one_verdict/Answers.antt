use Rattle.capture3.proofs.Lemmas.Files.Verdicts.{one_verdict}
use Rattle.capture3.proofs.laws.one_verdict.Goals as goal

pub returns : goal.returns
returns c file are = one_verdict file are
