use Rattle.std.proofs.Common.{◌≤◌, Err, ap, refl, arith}
use Rattle.capture3.specs.declared.container.position.spot.Spot.TheVariants.{Chunk}
use Rattle.capture3.specs.machinery.PositionState.{standing_at}
use Rattle.capture3.proofs.Lemmas.Container.ContainerLemmas.{join_goes_on, join_has_record, join_too_long}
use Rattle.capture3.proofs.container.position.counts.Counts.join.Goals as goal

pub returns-in-Ok-default-Record-clause-leads : goal.returns-in-Ok-default-Record-clause-leads
returns-in-Ok-default-Record-clause-leads c streams stored =
    let most : c.min.result ≤ c.args.left = omega arith in
    let chunk = c.take_chunk.ensures in
    let pushed = c.in-Ok-default-Record.ensures in
    rw (chunk.count, chunk.event) (record {
      machine =
          join_has_record (standing_at c.args.self (Chunk c.args.side c.args.left)) _ streams
          c.args.side _ _ _ c.args.joiner.now.taking c.push.new.self.taking c.args.rest.now refl
          pushed.within most
          (pushed.machine.stops c.requires.running c.in-Ok-default-Record.field-0-1-is)
          (chunk.machine streams);
      joiner = pushed.machine.whole.0 c.in-Ok-default-Record.field-0-1-is;
      stored = rw chunk.event at (chunk.stored streams stored);
      room = rw chunk.event at (chunk.room streams stored);
    })

pub returns-in-Ok-default-More-clause-leads : goal.returns-in-Ok-default-More-clause-leads
returns-in-Ok-default-More-clause-leads c streams stored =
    let most : c.min.result ≤ c.args.left = omega arith in
    let chunk = c.take_chunk-in-Ok-default-More.ensures in
    let pushed = c.in-Ok-default-More.ensures in
    rw (chunk.count, chunk.event) (record {
      machine =
          join_goes_on (standing_at c.args.self (Chunk c.args.side c.args.left)) _ streams
          c.args.side _ _ _ c.args.joiner.now.taking c.push.new.self.taking c.args.rest.now refl
          pushed.within most
          (pushed.machine.runs c.requires.running c.in-Ok-default-More.field-0-1-is)
          (chunk.machine streams);
      joiner = pushed.machine.running.0 c.in-Ok-default-More.field-0-1-is;
      stored = rw chunk.event at (chunk.stored streams stored);
      room = rw chunk.event at (chunk.room streams stored);
    })

pub returns-in-Err-TooLong-clause-fault : goal.returns-in-Err-TooLong-clause-fault
returns-in-Err-TooLong-clause-fault c streams =
    let most : c.min.result ≤ c.args.left = omega arith in
    rw c.next_record_fault.ensures
    (join_too_long (standing_at c.args.self (Chunk c.args.side c.args.left)) streams c.args.side _ _
    c.in-Err-TooLong.at c.args.joiner.now.taking c.args.rest.now refl most
    (c.in-Err-TooLong.ensures.machine.refuses c.in-Err-TooLong.at c.requires.running
    (ap Err c.in-Err-TooLong.field-0-is)))
