use Rattle.std.proofs.Common.{◌<◌, ◌+◌, length, arith}
use Rattle.capture3.proofs.Lemmas.Container.PositionLemmas.{agree_more, magic_fault}
use Rattle.capture3.proofs.container.position.counts.Counts.take_magic.Goals as goal

pub loop-i-preserved : goal.loop-i-preserved
loop-i-preserved c =
    let due : c.args.self.at + c.loop-i.i < 7 = omega arith in
    let within : c.loop-i.i < length c.args.rest.now = omega arith in
    agree_more c.args.self c.args.rest.now c.loop-i.i due within c.if-rest-i.false
    c.loop-i.invariant

pub returns-then-rest-i-clause-machine : goal.returns-then-rest-i-clause-machine
returns-then-rest-i-clause-machine c joining streams stored =
    let due : c.args.self.at + c.loop-i.i < 7 = omega arith in
    let within : c.loop-i.i < length c.args.rest.now = omega arith in
    rw c.file_fault.ensures (magic_fault c.args.self streams joining c.args.rest.now c.loop-i.i due
    within c.if-rest-i.true c.loop-i.invariant)
