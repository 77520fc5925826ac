use Rattle.std.proofs.Common.{◌≤◌, ◌-◌, length, take}
use Rattle.recording3.specs.Frames.{Extends}
use Rattle.recording3.specs.machinery.Reached.{Passes, place_of}
use Rattle.recording3.proofs.frames.pass.Given as goal

abbrev pub invariant-parts : goal.invariant-parts
invariant-parts g l =
    (l.at ≤ length l.bytes)
    × Passes (place_of l.fn.reached)
    (Extends (g.T.FrameTaker.took l.fn.taker) (g.T.FrameTaker.took l.taker)) (take l.at l.bytes)
    (place_of l.reached)

abbrev pub decreases-parts : goal.decreases-parts
decreases-parts g l = length l.bytes - l.at
