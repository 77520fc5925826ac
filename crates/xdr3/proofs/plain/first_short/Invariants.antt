use Rattle.xdr3.proofs.Lemmas.Shapes.PlainLemmas.{IsBefore}
use Rattle.xdr3.proofs.plain.first_short.Given as goal

abbrev pub invariant-loop-field : goal.invariant-loop-field
invariant-loop-field l = IsBefore l.fields l.input.body l.input.at l.at l.left l.field-index
