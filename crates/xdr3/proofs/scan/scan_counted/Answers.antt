use Rattle.xdr3.proofs.Common.{arith, err_from_is_err_and}
use Rattle.xdr3.proofs.Lemmas.Scans.CountedScanLemmas.{times_begin, times_count_stops, times_finish, times_next, times_part_stops, word_within}
use Rattle.xdr3.proofs.scan.scan_counted.Goals as goal

pub returns-in_err-count-clause-err : goal.returns-in_err-count-clause-err
returns-in_err-count-clause-err g c =
    let p = err_from_is_err_and c.from_residual.result c.from_residual.ensures.1 in
    rw (p.1, p.2) (times_count_stops c.args.name.now g.T.Scan.shape c.args.max c.args.input.now
    c.in_err-count.field-0.0 c.in_err-count.ensures.err)

pub parts-init : goal.parts-init
parts-init g c =
    times_begin g.V.Visit.stands g.T.Scan.shape c.in_ok-count.count c.scan_at_most.new.input
    c.scan_at_most.new.visitor
    (word_within g.V.Visit.stands c.args.name.now c.args.max c.in_ok-count.count c.args.input.now
    c.scan_at_most.new.input c.args.visitor.now c.scan_at_most.new.visitor
    c.in_ok-count.ensures.ok)

pub returns-in_err-scan-clause-err : goal.returns-in_err-scan-clause-err
returns-in_err-scan-clause-err g c =
    let p =
    err_from_is_err_and c.from_residual-in_err-scan.result c.from_residual-in_err-scan.ensures.1 in
    rw (p.1, p.2) (times_part_stops g.V.Visit.stands c.args.name.now g.T.Scan.shape c.args.max
    c.in_ok-count.count c.parts.counter c.args.input.now c.scan_at_most.new.input
    c.parts.input c.args.visitor.now c.scan_at_most.new.visitor c.parts.visitor
    c.in_err-scan.field-0.0 c.in_ok-count.ensures.ok c.parts-test.true c.parts.invariant
    c.in_err-scan.ensures.err)

pub parts-preserved : goal.parts-preserved
parts-preserved g c =
    times_next g.V.Visit.stands g.T.Scan.shape c.in_ok-count.count c.parts.counter
    c.scan_at_most.new.input c.parts.input c.scan.new.input c.scan_at_most.new.visitor
    c.parts.visitor c.scan.new.visitor c.parts-test.true c.parts.invariant
    c.in_ok-scan.ensures.ok

pub returns-clause-ok : goal.returns-clause-ok
returns-clause-ok g c =
    times_finish g.V.Visit.stands c.args.name.now g.T.Scan.shape c.args.max c.in_ok-count.count
    c.parts.counter c.args.input.now c.scan_at_most.new.input c.parts.input c.args.visitor.now
    c.scan_at_most.new.visitor c.parts.visitor c.in_ok-count.ensures.ok c.parts.invariant
    (omega arith) c.parts-test.false
