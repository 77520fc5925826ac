use Rattle.std.proofs.lemmas.Result.{IfErr-weaker, IfOk-weaker}
use Rattle.recording3.proofs.SegmentsLemmas.{lacks_inner, lacks_ip, lacks_more, lacks_tcp, lacks_tunnel, reaches_inner, reaches_tcp}
use Rattle.recording3.proofs.segments.+reach.Goals as goal

pub returns-in-Err-clause-err : goal.returns-in-Err-clause-err
returns-in-Err-clause-err t c =
    lacks_ip c.args.frame.now c.args.tunnels c.args.start c.args.wire c.in-Err.why
    c.in-Err.ensures.err

pub returns-then-datagram-eq6-clause-ok : goal.returns-then-datagram-eq6-clause-ok
returns-then-datagram-eq6-clause-ok t c =
    IfOk-weaker c.read_tcp.result _ _
    (λ s h. reaches_tcp c.args.frame.now c.args.tunnels c.args.start c.args.wire c.in-Ok.datagram s
    c.in-Ok.ensures.ok c.if-datagram-eq6.true h) c.read_tcp.ensures.ok

pub returns-then-datagram-eq6-clause-err : goal.returns-then-datagram-eq6-clause-err
returns-then-datagram-eq6-clause-err t c =
    IfErr-weaker c.read_tcp.result _ _
    (λ why h.
    lacks_tcp c.args.frame.now c.args.tunnels c.args.start c.args.wire c.in-Ok.datagram why
    c.in-Ok.ensures.ok c.if-datagram-eq6.true h) c.read_tcp.ensures.err

pub returns-then-tunnels-eq0-clause-err : goal.returns-then-tunnels-eq0-clause-err
returns-then-tunnels-eq0-clause-err t c =
    lacks_more c.args.frame.now c.args.tunnels c.args.start c.args.wire c.in-Ok.datagram
    c.if-tunnels-eq0.true c.in-Ok.ensures.ok c.if-datagram-eq6.false

pub returns-in-Err-find_inner-clause-err : goal.returns-in-Err-find_inner-clause-err
returns-in-Err-find_inner-clause-err t c =
    lacks_tunnel c.args.frame.now c.args.tunnels c.args.start c.args.wire c.in-Ok.datagram
    c.in-Err-find_inner.why c.if-tunnels-eq0.false c.in-Ok.ensures.ok c.if-datagram-eq6.false
    c.in-Err-find_inner.ensures.err

pub returns-clause-ok : goal.returns-clause-ok
returns-clause-ok t c =
    IfOk-weaker c.reach.result _ _
    (λ s h. reaches_inner c.args.frame.now c.args.tunnels c.args.start c.args.wire c.in-Ok.datagram
    c.in-Ok-find_inner.inner s c.if-tunnels-eq0.false c.in-Ok.ensures.ok c.if-datagram-eq6.false
    c.in-Ok-find_inner.ensures.ok h) c.reach.ensures.ok

pub returns-clause-err : goal.returns-clause-err
returns-clause-err t c =
    IfErr-weaker c.reach.result _ _
    (λ why h. lacks_inner c.args.frame.now c.args.tunnels c.args.start c.args.wire c.in-Ok.datagram
    c.in-Ok-find_inner.inner why c.if-tunnels-eq0.false c.in-Ok.ensures.ok c.if-datagram-eq6.false
    c.in-Ok-find_inner.ensures.ok h) c.reach.ensures.err
