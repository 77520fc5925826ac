use Rattle.xdr3.proofs.Lemmas.Shapes.PlainLemmas.{before_next, before_stops}
use Rattle.xdr3.proofs.plain.first_short.Goals as goal

pub returns-then-left-width : goal.returns-then-left-width
returns-then-left-width c =
    before_stops c.args.fields.now c.args.input.now.body c.args.input.now.at c.loop-field.at
    c.loop-field.left c.loop-field.field-index c.width-width.result _ c.loop-field.invariant
    c.loop-field-test.true c.width-width.ensures c.if-left-width.true

pub loop-field-preserved : goal.loop-field-preserved
loop-field-preserved c =
    before_next c.args.fields.now c.args.input.now.body c.args.input.now.at c.loop-field.at
    c.loop-field.left c.loop-field.field-index c.width-width.result _ c.loop-field.invariant
    c.loop-field-test.true c.width-width.ensures c.if-left-width.false
