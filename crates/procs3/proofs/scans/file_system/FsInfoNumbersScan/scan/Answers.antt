use Rattle.std.proofs.Common.{refl}
use Rattle.std.proofs.lemmas.Result.{err_from_is_err_and}
use Rattle.xdr3.proofs.Lemmas.Shapes.FlatLemmas.{flat_scans, flat_stops}
use Rattle.xdr3.specs.Item.{called}
use Rattle.nfs3_types.specs.Shapes.{time_named}
use Rattle.procs3.proofs.scans.file_system.FsInfoNumbersScan.scan.Goals as goal

pub returns-clause-ok : goal.returns-clause-ok
unfolding time_named called
returns-clause-ok g c =
    flat_scans g.V.Visit.stands _ _ c.args.input.now c.scan_plain.new.input c.args.visitor.now
    c.scan_plain.new.visitor c.in_ok-scan_plain.ensures.ok refl

pub returns-in_err-scan_plain-clause-err : goal.returns-in_err-scan_plain-clause-err
unfolding time_named called
returns-in_err-scan_plain-clause-err g c =
    let p = err_from_is_err_and c.from_residual.result c.from_residual.ensures.1 in
    rw (p.1, p.2) (flat_stops _ _ c.args.input.now c.in_err-scan_plain.field-0.0
    c.in_err-scan_plain.ensures.err refl)
