use Rattle.std.proofs.Common.{arith, ap, length}
use Rattle.rpc_head.proofs.HeadScanLemmas.{beginning_short, beginning_stops}
use Rattle.rpc_head.proofs.scans.reply.short_beginning.Goals as goal

pub returns-in-Ok : goal.returns-in-Ok
returns-in-Ok c =
    let same = c.in-Ok.ensures.moves.same_body in
    rw c.first_short.ensures (rw same (beginning_short c.args.input.now.body c.in-Ok.field-0
    c.args.input.now.at c.listed.new.self.at c.in-Ok.ensures.read
    (omega (arith, c.in-Ok.ensures.moves.within, ap length same)) c.requires))

pub returns-in-Err : goal.returns-in-Err
returns-in-Err c =
    beginning_stops c.args.input.now.body c.args.input.now.at c.in-Err.stop c.in-Err.ensures.read
