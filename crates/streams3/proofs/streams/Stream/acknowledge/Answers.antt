use Rattle.std.proofs.Common.{sym, refl, inl, inr, arith}
use Rattle.std.proofs.lemmas.List.{append-nil}
use Rattle.streams3.specs.Events.{Acknowledged, AcknowledgedAt, Stray}
use Rattle.streams3.specs.Streams.{shown_of}
use Rattle.streams3.proofs.EventsLemmas.{shows_more, top_least}
use Rattle.streams3.proofs.streams.Stream.acknowledge.Goals as goal

pub position_of-requires-clause-least : goal.position_of-requires-clause-least
position_of-requires-clause-least c =
    omega (arith, c.self.invariant.top, top_least c.self.inside.log.items)

pub returns-in-None-clause-ok : goal.returns-in-None-clause-ok
returns-in-None-clause-ok c = λ events h.
    let log = c.self.inside.log.items in
    shows_more c.args.self.now (shown_of c.self.inside) _ events
    (Acknowledged c.args.acknowledgment) (Stray c.args.acknowledgment.frame)
    (inr (rw c.self.invariant.top at c.in-None.ensures, refl)) refl (sym (append-nil log))
    c.note_stray.ensures c.self.view_is h

pub returns-in-Some-clause-ok : goal.returns-in-Some-clause-ok
returns-in-Some-clause-ok c = λ events h.
    let log = c.self.inside.log.items in
    shows_more c.args.self.now (shown_of c.self.inside) _ events
    (Acknowledged c.args.acknowledgment)
    (AcknowledgedAt c.in-Some.position c.args.acknowledgment.frame)
    (inl (c.in-Some.position, rw c.self.invariant.top at c.in-Some.ensures, refl)) refl
    (sym (append-nil log))
    c.note_acknowledged.ensures c.self.view_is h
