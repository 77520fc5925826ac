use Rattle.std.proofs.Common.{◌≡◌, None, take}
use Rattle.streams3.specs.Runs.{spot_of}
use Rattle.conversion3.proofs.flaws.frame_at.Given as goal

abbrev pub invariant-loop-run : goal.invariant-loop-run
invariant-loop-run l = spot_of (take l.run-index l.runs) l.position ≡ None
