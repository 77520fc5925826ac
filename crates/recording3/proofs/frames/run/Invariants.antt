use Rattle.std.proofs.Common.{◌≡◌, ◌+◌, ◌-◌, ◌^◌, ◌≤◌, take, vec_len}
use Rattle.recording3.specs.Frames.{Extends}
use Rattle.recording3.specs.Places.{at_front}
use Rattle.recording3.specs.machinery.Reached.{place_of}
use Rattle.recording3.proofs.Files.ReadingLemmas.{Reading}
use Rattle.recording3.proofs.frames.run.Given as goal

abbrev pub invariant-reads : goal.invariant-reads
invariant-reads g l =
    (l.there ≤ vec_len l.window) × (vec_len l.window ≤ 16781312)
    × (l.reads ≤ l.reached.offset + l.there)
    × (g.R.Source.failures l.source ≡ g.R.Source.failures l.fn.source)
    × Reading (at_front l.fn.reached.frames)
    (g.R.Source.observed l.fn.source, g.R.Source.observed l.source)
    (Extends (g.T.FrameTaker.took l.fn.taker) (g.T.FrameTaker.took l.taker)) (place_of l.reached)
    (take l.there l.window.items)

abbrev pub decreases-reads : goal.decreases-reads
decreases-reads g l = 2 ^ 64 - l.reads
