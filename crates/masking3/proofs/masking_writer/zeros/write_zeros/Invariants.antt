use Rattle.masking3.proofs.Common.{◌≡◌, ◌++◌, replicate}
use Rattle.masking3.proofs.masking_writer.zeros.write_zeros.Given as goal

abbrev pub invariant-loop-left : goal.invariant-loop-left
invariant-loop-left l = l.writer ++ replicate l.left 0 ≡ l.fn.writer ++ replicate l.count 0

abbrev pub decreases-loop-left : goal.decreases-loop-left
decreases-loop-left l = l.left
