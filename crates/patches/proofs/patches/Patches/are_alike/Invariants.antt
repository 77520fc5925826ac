use Rattle.std.proofs.Common.{◌≡◌, drop}
use Rattle.patches.specs.Patches.{patched_by}
use Rattle.patches.proofs.patches.Patches.are_alike.Given as goal

abbrev pub invariant-loop-i : goal.invariant-loop-i
invariant-loop-i l =
    patched_by (drop l.i l.self.parts) l.self.last l.rest
    ≡ patched_by (drop l.i l.other.parts) l.other.last l.other_rest
    → patched_by l.self.parts l.self.last l.body
    ≡ patched_by l.other.parts l.other.last l.other_body
