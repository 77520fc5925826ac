use Rattle.std.proofs.Common.{take}
use Rattle.streams3.specs.machinery.Repeating.{AreAgain}
use Rattle.streams3.proofs.repeats.repeats.Given as goal

abbrev pub invariant-loop-run : goal.invariant-loop-run
invariant-loop-run l = AreAgain (take l.run-index l.payloads) l.runs l.pairs.items
