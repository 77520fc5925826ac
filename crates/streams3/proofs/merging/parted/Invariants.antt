use Rattle.std.proofs.Common.{take}
use Rattle.streams3.proofs.PartingLemmas.{Parting}
use Rattle.streams3.proofs.merging.parted.Given as goal

abbrev pub invariant-loop-run : goal.invariant-loop-run
invariant-loop-run l = Parting (take l.run-index l.log) l.ahead.items l.late.items l.top
