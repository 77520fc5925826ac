use Rattle.xdr3.proofs.Lemmas.Scans.CountedScanLemmas.{ScansTimes}
use Rattle.xdr3.proofs.scan.scan_counted.Given as goal

abbrev pub invariant-parts : goal.invariant-parts
invariant-parts g l =
    ScansTimes g.V.Visit.stands g.T.Scan.shape l.count l.counter l.initial.input l.input
    l.initial.visitor l.visitor
