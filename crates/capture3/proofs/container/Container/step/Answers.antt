use Rattle.capture3.proofs.Common.{ap, refl, ◌∙◌}
use Rattle.capture3.specs.declared.container.position.spot.WordOf.{WordOf}
use Rattle.capture3.specs.declared.container.position.spot.Spot.TheVariants.{Word}
use Rattle.capture3.specs.machinery.Container.{unpacking_in}
use Rattle.capture3.proofs.Lemmas.Container.InPlaceLemmas.{running_copied}
use Rattle.capture3.proofs.Lemmas.Container.ContainerLemmas.{shown_at, step_fails, step_reaches, step_stops, steps_to, stored_here}
use Rattle.capture3.proofs.container.Container.step.Goals as goal

pub returns-in-Length-clause-ok : goal.returns-in-Length-clause-ok
returns-in-Length-clause-ok c =
    let self = c.args.self.now in
    let took = c.take_word-step.ensures in
    steps_to self self c.go.new.self c.args.rest.now _ _ _ c.go.ensures took.taken
    (step_reaches self c.position.inside _ c.args.rest.now _ c.position.view_is
    (c.in-Word.is ∙ ap (λ (w : WordOf). Word w c.in-Word.part) c.in-Length.is) c.requires.ready
    took.steps (took.machine _ c.open_body.ensures))
    (running_copied self.joiner c.requires.ready.ready) refl

pub returns-in-Length-clause-fault : goal.returns-in-Length-clause-fault
returns-in-Length-clause-fault c =
    let self = c.args.self.now in
    step_stops (unpacking_in self) self c.go.new.self c.args.rest.now _ _ _ c.go.ensures
    (step_fails self c.position.inside _ c.args.rest.now _ c.position.view_is
    (c.in-Word.is ∙ ap (λ (w : WordOf). Word w c.in-Word.part) c.in-Length.is) c.requires.ready
    (c.take_word-step.ensures.machine _ c.open_body.ensures))

pub returns-in-Chunk-clause-ok : goal.returns-in-Chunk-clause-ok
returns-in-Chunk-clause-ok c =
    let self = c.args.self.now in
    let inside = c.position.inside in
    let here = shown_at inside self.position _ c.position.view_is c.in-Chunk.is in
    let took = c.join-step.ensures in
    steps_to self _ c.go-in-Chunk.new.self c.args.rest.now _ _ _ c.go-in-Chunk.ensures took.taken
    (rw (← here) (took.leads self.streams.kept
    (stored_here inside self.position _ self.streams.kept c.position.view_is c.in-Chunk.is
    c.requires.ready.stored))) (λ whole. took.copied) refl

pub returns-in-Chunk-clause-fault : goal.returns-in-Chunk-clause-fault
returns-in-Chunk-clause-fault c =
    let self = c.args.self.now in
    step_stops (unpacking_in self) _ c.go-in-Chunk.new.self c.args.rest.now _ _ _
    c.go-in-Chunk.ensures
    (rw (← (shown_at c.position.inside self.position _ c.position.view_is c.in-Chunk.is))
    (c.join-step.ensures.fault self.streams.kept))
