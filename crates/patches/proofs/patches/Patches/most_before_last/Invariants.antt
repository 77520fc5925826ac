use Rattle.std.proofs.Common.{◌≤◌, ◌+◌, drop, min}
use Rattle.patches.specs.machinery.Room.{kept_by}
use Rattle.patches.proofs.patches.Patches.most_before_last.Given as goal

abbrev pub invariant-loop-part : goal.invariant-loop-part
invariant-loop-part l =
    min (kept_by l.fn.self.parts) l.body ≤ l.front + kept_by (drop l.part-index l.fn.self.parts)
