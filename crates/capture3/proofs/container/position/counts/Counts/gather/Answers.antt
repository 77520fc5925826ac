use Rattle.capture3.proofs.Common.{size, with_more, ◌≡◌, ◌≤◌, ◌+◌, ℕ, length, take, length-take, refl, sym, ap, ◌∙◌, arith}
use Rattle.capture3.specs.declared.container.position.spot.Spot.TheVariants.{SideChunk}
use Rattle.capture3.specs.machinery.PositionState.{standing_at}
use Rattle.capture3.proofs.Lemmas.Container.ContainerLemmas.{gathers}
use Rattle.capture3.proofs.Lemmas.Container.SidedChunksMachineLemmas.{size-with_more}
use Rattle.capture3.proofs.container.position.counts.Counts.gather.Goals as goal

pub returns-clause-leads : goal.returns-clause-leads
returns-clause-leads c taking running =
    let most : c.min-count.result ≤ c.args.left = omega arith in
    let front = length-take c.min-count.result c.args.rest.now in
    let bytes = take c.min-count.result c.args.rest.now in
    let all : c.min-count.result ≡ length bytes = omega arith in
    let chunk = c.take_side_chunk.ensures in
    let streams = c.args.streams.now.kept in
    let grown : size (with_more streams c.args.side bytes) ≡ size streams + c.min-count.result =
    size-with_more streams c.args.side bytes ∙ ap (λ (n : ℕ). size streams + n) (sym all) in
    rw (chunk.count, chunk.event, c.in_ok-add.ensures.added) (record {
      machine =
          gathers (standing_at c.args.self (SideChunk c.args.side c.args.left))
          c.take_side_chunk.result.position streams c.args.side c.args.left c.min-count.result
          c.min-count.result taking c.args.rest.now refl most all chunk.machine;
      joiner = running;
      stored = chunk.stored streams _ grown c.requires.stored;
      room = omega (arith, chunk.room streams _ grown);
    })
