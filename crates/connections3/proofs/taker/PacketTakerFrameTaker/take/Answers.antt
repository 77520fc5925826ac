use Rattle.std.proofs.Common.{◌∙◌, Err, ap, inl, refl}
use Rattle.recording3.proofs.Files.OutcomesLemmas.{outcome_of}
use Rattle.recording3.specs.Places.{Passed}
use Rattle.connections3.specs.declared.taker.PacketTaker.{PacketTaker}
use Rattle.connections3.proofs.ResultLemmas.{if_err, if_ok}
use Rattle.connections3.proofs.FramesLemmas.{frame_beyond, frame_not_taken, frame_taken}
use Rattle.connections3.proofs.taker.PacketTakerFrameTaker.take.Goals as goal

pub returns-then-is_err : goal.returns-then-is_err
returns-then-is_err c =
    let p : Passed = record { head = c.args.head.now; octets = c.args.octets.now } in
    let taker = c.args.self.now in
    frame_beyond taker taker p refl
    (inl (if_err c.count.result c.count.ensures.err c.if-is_err.ensures.value).1)

pub returns-in-Err : goal.returns-in-Err
returns-in-Err c =
    let p : Passed = record { head = c.args.head.now; octets = c.args.octets.now } in
    let outcome = c.read_segment-outcome.result in
    let is = outcome_of p outcome c.read_segment-outcome.ensures.ok
    c.read_segment-outcome.ensures.err in
    frame_not_taken c.args.self.now c.take_outcome.new.connections c.in-Err.error p outcome is
    (λ e. c.take_outcome.ensures.memory (c.in-Err.is ∙ ap Err e))
    (λ e. c.take_outcome.ensures.many (c.in-Err.is ∙ ap Err e))

pub returns : goal.returns
returns c =
    let p : Passed = record { head = c.args.head.now; octets = c.args.octets.now } in
    let outcome = c.read_segment-outcome.result in
    let is = outcome_of p outcome c.read_segment-outcome.ensures.ok
    c.read_segment-outcome.ensures.err in
    let new : PacketTaker =
    record { connections = c.take_outcome.new.connections; tally = c.count.new.self } in
    frame_taken c.args.self.now new p outcome is c.in_default.ensures.has
    (if_ok c.count.result c.count.ensures.ok c.if-is_err.ensures.value) c.in_default.ensures.ok
