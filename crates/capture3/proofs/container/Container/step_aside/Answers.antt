use Rattle.std.proofs.Common.{refl}
use Rattle.capture3.specs.machinery.Container.{unpacking_in}
use Rattle.capture3.proofs.Lemmas.Container.InPlaceLemmas.{running_copied}
use Rattle.capture3.proofs.Lemmas.Container.ContainerLemmas.{shown_at, step_fails, step_reaches, step_stops, steps_to, stored_here}
use Rattle.capture3.proofs.container.Container.step_aside.Goals as goal

pub returns-in-Magic-clause-ok : goal.returns-in-Magic-clause-ok
returns-in-Magic-clause-ok c =
    let self = c.args.self.now in
    steps_to self self c.go.new.self c.args.rest.now _ _ _ c.go.ensures
    c.take_magic.ensures.taken
    (step_reaches self c.position.inside _ c.args.rest.now _ c.position.view_is c.in-Magic.is
    c.requires.ready c.take_magic.ensures.steps (c.take_magic.ensures.machine _))
    (running_copied self.joiner c.requires.ready.ready) refl

pub returns-in-Magic-clause-fault : goal.returns-in-Magic-clause-fault
returns-in-Magic-clause-fault c =
    let self = c.args.self.now in
    step_stops (unpacking_in self) self c.go.new.self c.args.rest.now _ _ _ c.go.ensures
    (step_fails self c.position.inside _ c.args.rest.now _ c.position.view_is c.in-Magic.is
    c.requires.ready (c.take_magic.ensures.machine _))

pub returns-in-Digit-clause-ok : goal.returns-in-Digit-clause-ok
returns-in-Digit-clause-ok c =
    let self = c.args.self.now in
    steps_to self self c.go-in-Digit.new.self c.args.rest.now _ _ _ c.go-in-Digit.ensures
    c.take_digit.ensures.taken
    (step_reaches self c.position.inside _ c.args.rest.now _ c.position.view_is c.in-Digit.is
    c.requires.ready c.take_digit.ensures.steps (c.take_digit.ensures.machine _))
    (running_copied self.joiner c.requires.ready.ready) refl

pub returns-in-Digit-clause-fault : goal.returns-in-Digit-clause-fault
returns-in-Digit-clause-fault c =
    let self = c.args.self.now in
    step_stops (unpacking_in self) self c.go-in-Digit.new.self c.args.rest.now _ _ _
    c.go-in-Digit.ensures
    (step_fails self c.position.inside _ c.args.rest.now _ c.position.view_is c.in-Digit.is
    c.requires.ready (c.take_digit.ensures.machine _))

pub returns-in-Word-clause-fault : goal.returns-in-Word-clause-fault
returns-in-Word-clause-fault c =
    let self = c.args.self.now in
    step_stops (unpacking_in self) self c.go-in-Word.new.self c.args.rest.now _ _ _
    c.go-in-Word.ensures
    (step_fails self c.position.inside _ c.args.rest.now _ c.position.view_is c.in-Word.is
    c.requires.ready (c.take_word-step.ensures.machine _ c.open_body.ensures))

pub returns-in-Chunk-clause-ok : goal.returns-in-Chunk-clause-ok
returns-in-Chunk-clause-ok c =
    let self = c.args.self.now in
    let inside = c.position.inside in
    let here = shown_at inside self.position _ c.position.view_is c.in-Chunk.is in
    let took = c.join-step.ensures in
    steps_to self _ c.go-in-Chunk.new.self c.args.rest.now _ _ _ c.go-in-Chunk.ensures took.taken
    (rw (← here) (took.leads self.streams.kept
    (stored_here inside self.position _ self.streams.kept c.position.view_is c.in-Chunk.is
    c.requires.ready.stored))) (λ whole. took.copied) refl

pub returns-in-Chunk-clause-fault : goal.returns-in-Chunk-clause-fault
returns-in-Chunk-clause-fault c =
    let self = c.args.self.now in
    step_stops (unpacking_in self) _ c.go-in-Chunk.new.self c.args.rest.now _ _ _
    c.go-in-Chunk.ensures
    (rw (← (shown_at c.position.inside self.position _ c.position.view_is c.in-Chunk.is))
    (c.join-step.ensures.fault self.streams.kept))
