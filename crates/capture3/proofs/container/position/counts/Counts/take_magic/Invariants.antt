use Rattle.capture3.proofs.Lemmas.Container.PositionLemmas.{AgreeWithMagic}
use Rattle.capture3.proofs.container.position.counts.Counts.take_magic.Given as goal

abbrev pub invariant-loop-i : goal.invariant-loop-i
invariant-loop-i l = AgreeWithMagic l.self l.rest l.i
