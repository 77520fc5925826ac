use Rattle.program3.proofs.Common.{refl, folded_multiply}
use Rattle.program3.proofs.hashing.folded_multiply.Goals as goal

pub returns : goal.returns
unfolding folded_multiply
returns c = refl
