use Rattle.canon3.proofs.comparison.Comparison.find.Goals as goal

pub returns-in-Ok-Some-clause-found : goal.returns-in-Ok-Some-clause-found
returns-in-Ok-Some-clause-found g c start other_start u =
    rw c.in-Ok-Some.field-0-is at
    (c.in-Ok-Some.ensures.steps start other_start
    (c.loop-finding.invariant.under_way start other_start u))
