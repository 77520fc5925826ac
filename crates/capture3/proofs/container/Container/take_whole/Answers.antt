use Rattle.std.proofs.Common.{◌≤◌, ◌∙◌, ap, sym, arith}
use Rattle.capture3.specs.declared.container.position.Position.{Position}
use Rattle.capture3.proofs.Lemmas.Container.ContainerLemmas.{join_has_record}
use Rattle.capture3.proofs.container.Container.take_whole.Goals as goal

pub returns-clause-reaches : goal.returns-clause-reaches
returns-clause-reaches c =
    let most : c.min.result ≤ c.in-Chunk.left = omega arith in
    let self = c.args.self.now in
    let passed = c.pass_record.ensures in
    let pushed = c.in_ok-count.ensures in
    let streams = self.streams.kept in
    let here = ap (λ (p : Position). p.spot) (sym c.open.view_is) ∙ c.in-Chunk.is in
    record {
      machine =
          join_has_record self.position c.pass_record.new.self streams c.in-Chunk.side
          c.in-Chunk.left c.in_ok-count.count c.min.result self.joiner.taking
          c.take_whole.new.self.taking c.args.piece.now here pushed.within.1 most pushed.stops
          (passed.machine streams);
      joiner = pushed.whole;
      stored = passed.stored streams c.requires.ready.stored;
      room = passed.room streams c.requires.ready.stored;
    }
