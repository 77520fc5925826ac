use Rattle.xdr3.proofs.Lemmas.Shapes.PlainLemmas.{IsPassing}
use Rattle.masking3.specs.machinery.MaskingWriter.{MaskStands}
use Rattle.masking3.proofs.masking_writer.MaskingWriter.write_each.Given as goal

abbrev pub invariant-loop-field : goal.invariant-loop-field
invariant-loop-field g l =
    IsPassing (MaskStands g.P.Plan.ways) l.fields l.bytes l.rest l.fn.self l.self l.field-index
