use Rattle.xdr3.proofs.Lemmas.Shapes.PlainLemmas.{IsPassing}
use Rattle.xdr3.proofs.visit.Visit.plain.Given as goal

abbrev pub invariant-loop-field : goal.invariant-loop-field
invariant-loop-field g l =
    IsPassing g.Self.Visit.stands l.fields l.bytes l.rest l.fn.self l.self l.field-index
