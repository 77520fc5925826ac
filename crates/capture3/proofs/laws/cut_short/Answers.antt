use Rattle.capture3.proofs.Lemmas.Files.Verdicts.{is_cut_short}
use Rattle.capture3.proofs.laws.cut_short.Goals as goal

pub returns : goal.returns
returns c file are = is_cut_short file are
