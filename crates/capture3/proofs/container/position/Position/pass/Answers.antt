use Rattle.std.proofs.Common.{◌∙◌, ap}
use Rattle.capture3.specs.declared.container.position.Position.{Position}
use Rattle.capture3.proofs.Lemmas.Container.ContainerLemmas.{shown_at}
use Rattle.capture3.proofs.container.position.Position.pass.Goals as goal

pub returns : goal.returns
returns c =
    let chunk = c.take_chunk-taken.ensures in
    let here = ap (λ (p : Position). p.spot) c.self.view_is ∙ c.requires.here in
    rw c.self-2.view_is (rw (← (shown_at c.self.inside c.args.self.now _ c.self.view_is here))
    (record {
      machine = chunk.machine;
      room = λ streams stored. rw chunk.event at (chunk.room streams stored);
      stored = λ streams stored. rw chunk.event at (chunk.stored streams stored);
    }))
