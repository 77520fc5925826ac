use Rattle.std.proofs.Common.{◌-◌, length}
use Rattle.xdr3.proofs.Lemmas.Scans.LinkedScanLemmas.{ScansLinks}
use Rattle.xdr3.proofs.scan.scan_linked.Given as goal

abbrev pub invariant-links : goal.invariant-links
invariant-links g l =
    ScansLinks g.V.Visit.stands l.name g.T.Scan.shape l.fn.input l.input l.fn.visitor l.visitor

abbrev pub decreases-links : goal.decreases-links
decreases-links g l = length l.input.body - l.input.at
