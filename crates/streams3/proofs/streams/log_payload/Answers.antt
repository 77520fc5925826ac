use Rattle.std.proofs.Common.{◌+◌, ◌≡◌, ap, sym, ◌∙◌, subst, arith, max}
use Rattle.streams3.specs.Runs.{top_of}
use Rattle.streams3.specs.Events.{payload_at}
use Rattle.streams3.specs.Runs.{AreSound}
use Rattle.streams3.proofs.EventsLemmas.{top_last}
use Rattle.streams3.proofs.LogLemmas.{payload_some, sound_last}
use Rattle.streams3.proofs.streams.log_payload.Goals as goal

pub returns-in-Ok-clause-top : goal.returns-in-Ok-clause-top
returns-in-Ok-clause-top c =
    let log = c.args.log.now.items in
    let run = payload_at c.args.segment.now c.args.position in
    let e : top_of c.push.new.self.items ≡ max (top_of log) (run.position + run.size) =
    ap top_of c.in-Ok.ensures.items ∙ top_last log run in (
      omega (arith, e, c.max.ensures, c.requires.top),
      omega (arith, c.max.ensures, c.requires.small, c.requires.near, c.fits-segment),
    )

pub returns-in-Ok-clause-sound : goal.returns-in-Ok-clause-sound
returns-in-Ok-clause-sound c =
    let run = payload_at c.args.segment.now c.args.position in
    subst AreSound (sym c.in-Ok.ensures.items)
    (sound_last c.args.log.now.items run c.requires.sound (
      payload_some c.args.segment.now c.args.top c.args.position (sym c.if-not-has_payload.ensures),
      omega (arith, c.requires.at, c.fits-segment),
    )
    (omega (arith, c.requires.near, c.requires.small, c.fits-segment)))
