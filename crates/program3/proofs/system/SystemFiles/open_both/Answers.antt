use Rattle.std.proofs.Common.{None, refl}
use Rattle.program3.proofs.system.SystemFiles.open_both.Goals as goal

pub returns-in-Ok-Some-clause-opened : goal.returns-in-Ok-Some-clause-opened
returns-in-Ok-Some-clause-opened c = c.new.ensures (λ _. None) refl
