use Rattle.capture3.proofs.Common.{sym, ◌∙◌, arith, common_steps}
use Rattle.capture3.proofs.Lemmas.Container.ContainerLemmas.{arrives_more, fails_more, goes_on_more, room_on, still_running, stored_on}
use Rattle.capture3.proofs.container.Container.advance.Goals as goal

pub returns-then-is_some-clause-reaches : goal.returns-then-is_some-clause-reaches
returns-then-is_some-clause-reaches c =
    let reached = c.in-Ok.ensures.ok.reaches in
    record {
      machine =
          arrives_more _ c.args.piece.now _ _ c.loop-taken.self.position _
          c.loop-taken.self.joiner.taking _ _ _ _ c.loop-taken.invariant.machine reached.machine;
      joiner = reached.joiner;
      stored = reached.stored;
      room = omega (arith, reached.room, c.loop-taken.invariant.room);
    }

pub loop-taken-preserved : goal.loop-taken-preserved
loop-taken-preserved c =
    let reached = c.in-Ok.ensures.ok.reaches in
    let none = sym c.is_some.ensures ∙ c.if-is_some.false in
    record {
      within = grind (arith, common_steps, c.in-Ok.ensures.ok.within);
      running =
          still_running c.in-Ok.event c.step.new.self.joiner.taking none reached.joiner;
      machine =
          goes_on_more _ c.args.piece.now _ _ c.loop-taken.self.position _
          c.loop-taken.self.joiner.taking _ _ _ c.in-Ok.event none
          c.loop-taken.invariant.machine reached.machine;
      room =
          room_on c.in-Ok.event _ _ _ none reached.room c.loop-taken.invariant.room;
      cursor = c.in-Ok.ensures.ok.cursor ∙ c.loop-taken.invariant.cursor;
      stored =
          stored_on c.in-Ok.event _ c.step.new.self.streams.kept none reached.stored;
    }

pub returns-in-Err-clause-fault : goal.returns-in-Err-clause-fault
returns-in-Err-clause-fault c =
    fails_more _ c.args.piece.now _ c.loop-taken.self.position c.loop-taken.self.joiner.taking _
    c.step.new.error c.loop-taken.invariant.within c.loop-taken.invariant.machine
    c.in-Err.ensures.fault
