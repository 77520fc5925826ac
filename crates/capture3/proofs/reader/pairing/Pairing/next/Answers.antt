use Rattle.capture3.proofs.Common.{◌≡◌, ℕ, List, ◌++◌, take, ap, ◌∙◌, Some, Entry, Event, HasCome}
use Rattle.capture3.specs.machinery.Pairing.{MeetsEvent}
use Rattle.capture3.specs.declared.container.position.spot.Event.TheVariants.{Begin, Turn, Close, Record}
use Rattle.capture3.specs.declared.fault.Side.TheVariants.{Client, Server}
use Rattle.capture3.proofs.Lemmas.Reader.PairingLemmas.{begin_goes, close_goes, comes_meets, comes_of_bytes, comes_on, comes_to_fault, fails_longer, turn_goes}
use Rattle.capture3.proofs.reader.pairing.Pairing.next.Given.{Over}
use Rattle.capture3.proofs.reader.pairing.Pairing.next.Goals.{In-Ok}
use Rattle.capture3.proofs.reader.pairing.Pairing.next.Goals as goal

-- something is whole next, after the record that was whole last is let go
meets : (g : Over) (c : In-Ok g) (bytes : List ℕ) (all : List Entry)
    → HasCome c.args.self.now.container (g.C.KnownCalls.known c.args.self.now.calls) bytes all
    → (event : Event) → c.in-Ok.next.1 ≡ Some event
    → MeetsEvent c.next.new.self (g.C.KnownCalls.known c.args.self.now.calls) event
    (bytes ++ take c.in-Ok.next.0 c.args.piece.now) all
meets g c bytes all s event is =
    let r = c.release.ensures in
    let next = c.in-Ok.ensures.ok in
    comes_meets c.release.new.self c.next.new.self _ bytes all
    (take c.in-Ok.next.0 c.args.piece.now) c.in-Ok.next.1
    (rw (r.position, r.joiner, r.streams, r.cursor) s) event is next.joiner
    (rw (r.position, r.streams, r.cursor) c.requires.ready.stored) next.comes

pub returns-in-None-clause-machine : goal.returns-in-None-clause-machine
returns-in-None-clause-machine g c bytes all s =
    let r = c.release.ensures in
    let next = c.in-Ok.ensures.ok in
    comes_on c.release.new.self c.next.new.self _ bytes all (take c.in-Ok.next.0 c.args.piece.now)
    c.in-Ok.next.1 (rw (r.position, r.joiner, r.streams, r.cursor) s) c.in-None.is next.joiner
    next.comes

pub returns-in-Some-Begin-clause-machine : goal.returns-in-Some-Begin-clause-machine
returns-in-Some-Begin-clause-machine g c bytes all s =
    let came = c.in-Some-Begin in
    let is = came.is ∙ ap Some (rw came.is at came.field-0-is) in
    begin_goes g.V.MessageVisit.rests g.V.Visit.stands c.args.visitor.now c.args.self.now.number
    c.next.new.self (g.C.KnownCalls.known c.args.self.now.calls) _ _ all c.clear.ensures
    (rw is at c.in-Ok.ensures.ok.joiner)
    (meets g (goal.at.returns-in-Some-Begin-clause-machine g c).In-Ok bytes all s Begin is)

pub returns-in-Some-Turn-clause-machine : goal.returns-in-Some-Turn-clause-machine
returns-in-Some-Turn-clause-machine g c bytes all s =
    let came = c.in-Some-Turn in
    let is = came.is ∙ ap Some (rw came.is at came.field-0-is) in
    turn_goes g.V.MessageVisit.rests g.V.Visit.stands c.args.visitor.now c.args.self.now.number
    c.next.new.self _ _ all (rw is at c.in-Ok.ensures.ok.joiner)
    (meets g (goal.at.returns-in-Some-Turn-clause-machine g c).In-Ok bytes all s Turn is)

pub returns-in-Some-Close-clause-machine : goal.returns-in-Some-Close-clause-machine
returns-in-Some-Close-clause-machine g c bytes all s =
    let came = c.in-Some-Close in
    let is = came.is ∙ ap Some (rw came.is at came.field-0-is) in
    close_goes g.V.MessageVisit.rests g.V.Visit.stands c.args.visitor.now c.args.self.now.number
    c.next.new.self _ _ all (rw is at c.in-Ok.ensures.ok.joiner)
    (meets g (goal.at.returns-in-Some-Close-clause-machine g c).In-Ok bytes all s Close is)

pub returns-in-Ok-call-clause-machine : goal.returns-in-Ok-call-clause-machine
returns-in-Ok-call-clause-machine g c bytes all s =
    let came = c.in-Some-Record-Client in
    let event = rw came.is at came.field-0-is in
    let side = rw event at (rw came.is at came.field-0-0-is) in
    c.in-Ok-call.ensures.ok.machine _ all
    (meets g (goal.at.returns-in-Ok-call-clause-machine g c).In-Ok bytes all s (Record Client)
    (came.is ∙ ap Some (event ∙ ap Record side)))

pub returns-in-Err-call-clause-fault : goal.returns-in-Err-call-clause-fault
returns-in-Err-call-clause-fault g c =
    let came = c.in-Some-Record-Client in
    let event = rw came.is at came.field-0-is in
    let side = rw event at (rw came.is at came.field-0-0-is) in
    record {
      device = c.in-Err-call.ensures.err.device;
      fault =
          λ bytes all s.
          fails_longer bytes c.args.piece.now c.in-Ok.next.0 all c.call.new.self.error
          (c.in-Err-call.ensures.err.fault _ all
          (meets g (goal.at.returns-in-Err-call-clause-fault g c).In-Ok bytes all s (Record Client)
          (came.is ∙ ap Some (event ∙ ap Record side))));
    }

pub returns-in-Ok-reply-clause-machine : goal.returns-in-Ok-reply-clause-machine
returns-in-Ok-reply-clause-machine g c bytes all s =
    let came = c.in-Some-Record-Server in
    let event = rw came.is at came.field-0-is in
    let side = rw event at (rw came.is at came.field-0-0-is) in
    c.in-Ok-reply.ensures.ok.machine _ all
    (meets g (goal.at.returns-in-Ok-reply-clause-machine g c).In-Ok bytes all s (Record Server)
    (came.is ∙ ap Some (event ∙ ap Record side)))

pub returns-in-Err-reply-clause-fault : goal.returns-in-Err-reply-clause-fault
returns-in-Err-reply-clause-fault g c =
    let came = c.in-Some-Record-Server in
    let event = rw came.is at came.field-0-is in
    let side = rw event at (rw came.is at came.field-0-0-is) in
    record {
      device = c.in-Err-reply.ensures.err.device;
      fault =
          λ bytes all s.
          fails_longer bytes c.args.piece.now c.in-Ok.next.0 all c.reply.new.self.error
          (c.in-Err-reply.ensures.err.fault _ all
          (meets g (goal.at.returns-in-Err-reply-clause-fault g c).In-Ok bytes all s (Record Server)
          (came.is ∙ ap Some (event ∙ ap Record side))));
    }

pub returns-in-Err-clause-fault : goal.returns-in-Err-clause-fault
returns-in-Err-clause-fault g c =
    let r = c.release.ensures in
    record {
      device =
          comes_of_bytes c.release.new.self c.args.piece.now c.next.new.error
          c.in-Err.ensures.fault;
      fault =
          λ bytes all s.
          comes_to_fault c.release.new.self (g.C.KnownCalls.known c.args.self.now.calls) bytes all
          c.args.piece.now c.next.new.error (rw (r.position, r.joiner, r.streams, r.cursor) s)
          c.in-Err.ensures.fault;
    }
