use Rattle.xdr3.specs.Item.{called}
use Rattle.procs3.proofs.values.directories.ReadDirArgsWalk.walk.Goals as goal

pub walk_fields-requires-clause-limit : goal.walk_fields-requires-clause-limit
unfolding called
walk_fields-requires-clause-limit g c =
    rw c.as_slice.ensures.bytes c.requires

pub returns-clause-ok : goal.returns-clause-ok
unfolding called
returns-clause-ok g c =
    rw (← c.as_slice.ensures.bytes) c.walk_fields.ensures.ok

pub returns-clause-err : goal.returns-clause-err
unfolding called
returns-clause-err g c =
    rw (← c.as_slice.ensures.bytes) c.walk_fields.ensures.err
