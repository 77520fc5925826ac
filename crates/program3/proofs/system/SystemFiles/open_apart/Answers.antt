use Rattle.std.proofs.Common.{None, refl}
use Rattle.program3.proofs.system.SystemFiles.open_apart.Goals as goal

pub returns-in-Ok-2-clause-opened : goal.returns-in-Ok-2-clause-opened
returns-in-Ok-2-clause-opened c = c.new.ensures (λ _. None) refl
