use Rattle.program3.specs.Hashing.{finish}
use Rattle.program3.proofs.hashing.SecretHasherHasher.finish.Goals as goal

pub returns : goal.returns
unfolding finish
returns c = c.folded_multiply.ensures
