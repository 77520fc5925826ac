use Rattle.std.proofs.Common.{arith}
use Rattle.recording3.proofs.Ipv6Reasons.{ends_early, ends_late, fragment}
use Rattle.recording3.proofs.ip.read_ipv6.Goals as goal
use Rattle.recording3.proofs.ip.read_ipv6.Goals.{then-end-begin-via-then-end-begin, then-end-begin-via-else-end-begin+then-wire-end}

pub returns-then-end-begin-clause-err : goal.returns-then-end-begin-clause-err
returns-then-end-begin-clause-err c =
    let e = rw c.two.ensures at c.datagram_end-end.ensures in
    elim c.then-end-begin.branch [
      | then-end-begin-via-then-end-begin w ↦ ends_early c.args.frame.now c.args.at c.args.wire
          c.in-Some.kind c.in-Some.begin c.datagram_end-end.result (omega arith) c.in-Some.ensures.0
          e
          w.if-end-begin.true
      | then-end-begin-via-else-end-begin+then-wire-end w ↦ ends_late c.args.frame.now c.args.at
          c.args.wire
          c.in-Some.kind c.in-Some.begin c.datagram_end-end.result (omega arith) c.in-Some.ensures.0
          e
          w.if-end-begin.false w.if-wire-end.true
    ]

pub returns-then-kind-eq44-clause-err : goal.returns-then-kind-eq44-clause-err
returns-then-kind-eq44-clause-err c =
    fragment c.args.frame.now c.args.at c.args.wire c.in-Some.kind c.in-Some.begin
    c.datagram_end-end.result
    (omega arith) c.in-Some.ensures.0 (rw c.two.ensures at c.datagram_end-end.ensures)
    c.if-end-begin.false c.if-wire-end.false c.if-kind-eq44.true
