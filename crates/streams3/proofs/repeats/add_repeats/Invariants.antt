use Rattle.std.proofs.Common.{◌-◌, length}
use Rattle.streams3.proofs.RepeatsLemmas.{Repeating}
use Rattle.streams3.proofs.repeats.add_repeats.Given as goal

abbrev pub invariant-loop-run : goal.invariant-loop-run
invariant-loop-run l = Repeating l.runs l.run l.fn.pairs.items l.pairs.items l.i

abbrev pub decreases-loop-run : goal.decreases-loop-run
decreases-loop-run l = length l.runs - l.i
