use Rattle.std.proofs.Common.{None, refl}
use Rattle.program3.proofs.system.SystemFiles.open.Goals as goal

pub returns : goal.returns
returns c = record { opened = c.new.ensures (λ _. None) refl }
