use Rattle.std.proofs.Common.{[]}
use Rattle.nfs3streams.proofs.CaptureLemmas.{finishes_whole, reads_on}
use Rattle.nfs3streams.proofs.capture.pack_all.Goals as goal

pub returns-clause-written : goal.returns-clause-written
returns-clause-written g c before started =
    let (pairs, added, sent) = c.in_ok-pack_whole.ensures.packed before [] started in
    finishes_whole c.args.decided.now c.deref.result.now c.deref-2.result.now
    c.pack_whole.new.recorded.readings before _ pairs c.finish.result c.deref.ensures.value
    c.deref-2.ensures.value (c.finish.ensures.finishes before pairs added) sent

pub returns-clause-read : goal.returns-clause-read
returns-clause-read g c before started =
    let (pairs, added, sent) = c.in_ok-pack_whole.ensures.packed before [] started in
    reads_on c.args.recorded.now.failures c.pack_whole.new.recorded.failures before _ pairs
    c.finish.result (c.in_ok-pack_whole.ensures.read started.going)
    (c.finish.ensures.finishes before pairs added)
