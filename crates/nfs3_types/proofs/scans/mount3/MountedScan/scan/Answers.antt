use Rattle.xdr3.specs.Item.{Text, called}
use Rattle.xdr3.specs.Shape.{opaque}
use Rattle.xdr3.proofs.Lemmas.Scans.ScanLemmas.{last_scans, last_stops}
use Rattle.nfs3_types.specs.Shapes.{mounted}
use Rattle.nfs3_types.proofs.scans.mount3.MountedScan.scan.Goals as goal

pub returns-clause-ok : goal.returns-clause-ok
unfolding mounted called
returns-clause-ok g c =
    last_scans g.V.Visit.stands (opaque Text (called "hostname") 255)
    (opaque Text (called "directory") 1024)
    c.args.input.now c.scan_text.new.input c.scan_path.new.input c.args.visitor.now
    c.scan_text.new.visitor c.scan_path.new.visitor
    c.scan_path.result c.in_ok-scan_text.ensures.ok c.scan_path.ensures.ok

pub returns-clause-err : goal.returns-clause-err
unfolding mounted called
returns-clause-err g c =
    last_stops g.V.Visit.stands (opaque Text (called "hostname") 255)
    (opaque Text (called "directory") 1024)
    c.args.input.now c.scan_text.new.input c.args.visitor.now c.scan_text.new.visitor
    c.scan_path.result c.in_ok-scan_text.ensures.ok c.scan_path.ensures.err
