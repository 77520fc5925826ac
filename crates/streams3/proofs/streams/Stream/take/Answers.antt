use Rattle.std.proofs.Common.{ap, sym, refl, inl, inr, arith}
use Rattle.std.proofs.lemmas.List.{append-nil}
use Rattle.streams3.specs.Events.{Sent, SentAt, Stray}
use Rattle.streams3.specs.Streams.{shown_of}
use Rattle.streams3.proofs.EventsLemmas.{shows_more, top_least}
use Rattle.streams3.proofs.streams.Stream.take.Goals as goal

pub position_of-requires-clause-least : goal.position_of-requires-clause-least
position_of-requires-clause-least c =
    omega (arith, c.self.invariant.top, top_least c.self.inside.log.items)

pub note_flags-requires : goal.note_flags-requires
note_flags-requires c =
    omega (arith, c.in-Some.ensures.high, c.if-is_long.ensures.no refl)

pub invariant_of-self-in-Some : goal.invariant_of-self-in-Some
invariant_of-self-in-Some c =
    let t = c.in_ok-self-inside-in-Some.ensures.top in
    record {
      sound = c.log_payload.ensures.sound;
      top = t.0;
      small = t.1;
      few = omega (arith, ap (λ m. m.strays) (c.note_flags.ensures 0), c.self.invariant.few);
    }

pub returns-in-None-clause-ok : goal.returns-in-None-clause-ok
returns-in-None-clause-ok c = λ events h.
    let log = c.self.inside.log.items in
    shows_more c.args.self.now (shown_of c.self.inside) _ events
    (Sent c.args.segment.now) (Stray c.args.segment.now.frame)
    (inr (rw (c.self.invariant.top, c.first_number.ensures) at c.in-None.ensures, refl)) refl
    (sym (append-nil log))
    c.note_stray.ensures c.self.view_is h

pub returns-in_ok-self-inside-in-Some-clause-ok : goal.returns-in_ok-self-inside-in-Some-clause-ok
returns-in_ok-self-inside-in-Some-clause-ok c = λ events h.
    let s = c.args.segment.now in
    shows_more c.args.self.now (shown_of c.self.inside) _ events (Sent s)
    (SentAt s c.self.inside.top c.in-Some.position)
    (inl (
      c.in-Some.position,
      rw (c.self.invariant.top, c.first_number.ensures) at c.in-Some.ensures,
      ap (λ t. SentAt s t c.in-Some.position) c.self.invariant.top,
    )) refl
    c.in_ok-self-inside-in-Some.ensures.ok (c.note_flags.ensures c.self.inside.top) c.self.view_is h
