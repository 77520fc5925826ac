use Rattle.std.proofs.Common.{◌+◌, ◌-◌, ◌^◌, length}
use Rattle.streams3.proofs.MergingLemmas.{Merging}
use Rattle.streams3.proofs.merging.merged.Given as goal

abbrev pub invariant-loop-i : goal.invariant-loop-i
invariant-loop-i l = Merging l.runs.items l.first l.second l.i l.j l.end

abbrev pub decreases-loop-i : goal.decreases-loop-i
decreases-loop-i l = (length l.first - l.i) + (length l.second - l.j) + (2 ^ 63 - l.end)
