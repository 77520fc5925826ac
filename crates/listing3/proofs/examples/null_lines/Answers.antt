use Rattle.listing3.proofs.Common.{refl, digits, encode_with}
use Rattle.procs3.specs.Table.{nfs_procedures}
use Rattle.listing3.proofs.examples.null_lines.Goals as goal

pub returns : goal.returns
unfolding encode_with digits nfs_procedures
returns c = record { lines = refl }
