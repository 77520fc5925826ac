use Rattle.std.proofs.Common.{refl}
use Rattle.canon3.proofs.comparison.read_second.Goals as goal

pub returns-in-Ok-clause-out : goal.returns-in-Ok-clause-out
returns-in-Ok-clause-out g c start handed h =
    let (more, all) = c.in-Ok.ensures.out start handed h in
    (refl, more, all)

pub returns-in-Err-clause-out : goal.returns-in-Err-clause-out
returns-in-Err-clause-out g c start handed h = (refl, c.in-Err.ensures.out start handed h)
