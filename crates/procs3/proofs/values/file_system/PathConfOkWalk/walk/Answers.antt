use Rattle.procs3.proofs.Common.{called}
use Rattle.procs3.proofs.values.file_system.PathConfOkWalk.walk.Goals as goal

pub walk_with_fields-requires-clause-limit : goal.walk_with_fields-requires-clause-limit
unfolding called
walk_with_fields-requires-clause-limit g c =
    rw (c.from.ensures, c.from-2.ensures, c.from-3.ensures, c.from-4.ensures) c.requires

pub returns-clause-err : goal.returns-clause-err
unfolding called
returns-clause-err g c =
    rw (← c.from.ensures, ← c.from-2.ensures, ← c.from-3.ensures, ← c.from-4.ensures)
    c.walk_with_fields.ensures.err

pub returns-clause-ok : goal.returns-clause-ok
unfolding called
returns-clause-ok g c =
    rw (← c.from.ensures, ← c.from-2.ensures, ← c.from-3.ensures, ← c.from-4.ensures)
    c.walk_with_fields.ensures.ok
