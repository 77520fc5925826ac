use Rattle.xdr3.proofs.Common.{Bool, length, ap, arith, subst, err_from_is_err_and, BadBool, is_bool, ScansWord}
use Rattle.std.specs.Int.{from_bool}
use Rattle.xdr3.proofs.Lemmas.Scans.LinkedScanLemmas.{links_finish, links_part_stops, links_word_stops, scans_move, word_moves}
use Rattle.xdr3.proofs.scan.scan_linked.Goals as goal

pub returns-in_err-scan_boolean-clause-err : goal.returns-in_err-scan_boolean-clause-err
returns-in_err-scan_boolean-clause-err g c =
    let p = err_from_is_err_and c.from_residual.result c.from_residual.ensures.1 in
    rw (p.1, p.2) (links_word_stops g.V.Visit.stands c.args.name.now g.T.Scan.shape c.args.input.now
    c.links.input c.args.visitor.now c.links.visitor c.in_err-scan_boolean.field-0.0
    c.links.invariant c.in_err-scan_boolean.ensures.err)

pub links-smaller : goal.links-smaller
links-smaller g c =
    let word =
    word_moves g.V.Visit.stands c.args.name.now is_bool BadBool
    (from_bool c.in_ok-scan_boolean.field-0) c.links.input c.scan_boolean.new.input
    c.links.visitor c.scan_boolean.new.visitor c.in_ok-scan_boolean.ensures.ok in
    let part =
    scans_move g.V.Visit.stands g.T.Scan.shape c.scan_boolean.new.input c.scan.new.input
    c.scan_boolean.new.visitor c.scan.new.visitor c.in_ok-scan.ensures.ok in
    omega (
      arith,
      c.in_ok-scan_boolean.ensures.further,
      word.within,
      part.forward,
      part.within,
      ap length word.same_body,
      ap length part.same_body,
    )

pub returns-in_err-scan-clause-err : goal.returns-in_err-scan-clause-err
returns-in_err-scan-clause-err g c =
    let p =
    err_from_is_err_and c.from_residual-in_err-scan.result c.from_residual-in_err-scan.ensures.1 in
    let word =
    subst
    (λ (b : Bool).
    ScansWord g.V.Visit.stands (c.args.name.now, is_bool, BadBool) (from_bool b)
    (c.links.input, c.links.visitor) (c.scan_boolean.new.input, c.scan_boolean.new.visitor))
    c.if-branch.true c.in_ok-scan_boolean.ensures.ok in
    rw (p.1, p.2) (links_part_stops g.V.Visit.stands c.args.name.now g.T.Scan.shape c.args.input.now
    c.links.input c.scan_boolean.new.input c.args.visitor.now c.links.visitor
    c.scan_boolean.new.visitor c.in_err-scan.field-0.0 c.links.invariant word
    c.in_err-scan.ensures.err)

pub returns-clause-ok : goal.returns-clause-ok
returns-clause-ok g c =
    let word =
    subst
    (λ (b : Bool).
    ScansWord g.V.Visit.stands (c.args.name.now, is_bool, BadBool) (from_bool b)
    (c.links.input, c.links.visitor) (c.scan_boolean.new.input, c.scan_boolean.new.visitor))
    c.if-branch.false c.in_ok-scan_boolean.ensures.ok in
    links_finish g.V.Visit.stands c.args.name.now g.T.Scan.shape c.args.input.now c.links.input
    c.scan_boolean.new.input c.args.visitor.now c.links.visitor c.scan_boolean.new.visitor
    c.links.invariant word
