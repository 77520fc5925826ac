use Rattle.std.proofs.lemmas.Result.{err_from_is_err_and}
use Rattle.xdr3.specs.Item.{Text, called}
use Rattle.xdr3.specs.Shape.{linked, opaque}
use Rattle.xdr3.proofs.Lemmas.Scans.ScanLemmas.{first_stops, last_scans, last_stops}
use Rattle.nfs3_types.specs.Shapes.{export, group}
use Rattle.nfs3_types.proofs.scans.mount3.ExportScan.scan.Goals as goal

pub returns-in_err-scan_path-clause-err : goal.returns-in_err-scan_path-clause-err
unfolding export called
returns-in_err-scan_path-clause-err g c =
    let p = err_from_is_err_and c.from_residual.result c.from_residual.ensures.1 in
    rw (p.1, p.2)
    (first_stops (opaque Text (called "directory") 1024) (linked (called "group") group)
    c.args.input.now c.in_err-scan_path.field-0.0 c.in_err-scan_path.ensures.err)

pub returns-clause-ok : goal.returns-clause-ok
unfolding export called
returns-clause-ok g c =
    last_scans g.V.Visit.stands (opaque Text (called "directory") 1024)
    (linked (called "group") group)
    c.args.input.now c.scan_path.new.input c.scan_linked.new.input c.args.visitor.now
    c.scan_path.new.visitor c.scan_linked.new.visitor
    c.scan_linked.result c.in_ok-scan_path.ensures.ok c.scan_linked.ensures.ok

pub returns-clause-err : goal.returns-clause-err
unfolding export called
returns-clause-err g c =
    last_stops g.V.Visit.stands (opaque Text (called "directory") 1024)
    (linked (called "group") group)
    c.args.input.now c.scan_path.new.input c.args.visitor.now c.scan_path.new.visitor
    c.scan_linked.result c.in_ok-scan_path.ensures.ok c.scan_linked.ensures.err
