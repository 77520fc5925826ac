use Rattle.uses.proofs.Common.{arith}
use Rattle.uses.proofs.CountingLemmas.{procedure_of}
use Rattle.uses.proofs.counting.is_call.Goals as goal

pub returns-in-Call : goal.returns-in-Call
returns-in-Call c one is =
    let message = c.in-Call.call in
    rw (procedure_of message one c.args.procedure (rw c.in-Call.is at is))
    (grind (arith, c.eq.ensures))
