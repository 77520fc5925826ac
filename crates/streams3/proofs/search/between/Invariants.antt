use Rattle.std.proofs.Common.{◌-◌, length}
use Rattle.streams3.proofs.BetweenLemmas.{Between}
use Rattle.streams3.proofs.search.between.Given as goal

abbrev pub invariant-loop-start : goal.invariant-loop-start
invariant-loop-start l = Between l.runs l.from l.to l.parts.items l.i

abbrev pub decreases-loop-start : goal.decreases-loop-start
decreases-loop-start l = length l.runs - l.i
