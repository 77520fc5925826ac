use Rattle.program3.specs.Hashing.{read_u32}
use Rattle.program3.proofs.hashing.read_u32.Goals as goal

pub returns : goal.returns
unfolding read_u32
returns c = c.from_le_bytes.ensures
