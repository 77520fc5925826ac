use Rattle.record_mark.proofs.Common.{◌≡◌, ◌-◌, length, take, drop, arith, common_steps, taking_of}
use Rattle.record_mark.proofs.Takings.{led_on-take, ran_before}
use Rattle.record_mark.proofs.Stages.{is_open, open_runs}
use Rattle.record_mark.proofs.join.Joiner.advance.Goals as goal

pub loop-self-preserved : goal.loop-self-preserved
loop-self-preserved c =
    let rest : take c.in-Ok.count (take (length c.args.piece.now - c.loop-self.taken)
    (drop c.loop-self.taken c.args.piece.now))
    ≡ take c.in-Ok.count (drop c.loop-self.taken c.args.piece.now) =
    grind (arith, common_steps) in
    record {
      within = grind (arith, common_steps);
      sound = c.in-Ok.ensures.taken.sound;
      led =
          led_on-take (taking_of c.self.inside) (taking_of c.loop-self.self-inside)
          _ c.args.piece.now c.loop-self.taken c.in-Ok.count c.loop-self.invariant.led
          (cc c.in-Ok.ensures.taken.state);
      moved =
          λ some.
          ran_before (taking_of c.self.inside) (taking_of c.loop-self.self-inside)
          c.args.piece.now c.loop-self.taken c.loop-self.invariant.led
          c.loop-self.invariant.moved
          (open_runs c.loop-self.self-inside.stage c.loop-self.self-inside.body.items
          c.loop-self.invariant.sound (is_open c.loop-self.self-inside.stage
          c.in_default.not-Done c.in_default.not-Refused c.in_default.not-Starved));
      room = omega (arith, c.loop-self.invariant.room, c.in-Ok.ensures.capacity);
      grown = omega (arith, c.loop-self.invariant.grown, c.in-Ok.ensures.grown);
    }
