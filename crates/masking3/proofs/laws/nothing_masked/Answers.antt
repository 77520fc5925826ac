use Rattle.masking3.proofs.Lemmas.Masked.AgainLemmas.{all_kept}
use Rattle.masking3.proofs.laws.nothing_masked.Goals as goal

pub returns : goal.returns
returns c ways entries keeps = all_kept ways keeps entries
