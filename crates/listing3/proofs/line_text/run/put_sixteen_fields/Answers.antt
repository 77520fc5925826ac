use Rattle.listing3.proofs.Runs.{both_put, first_fields, last_fields}
use Rattle.listing3.proofs.line_text.run.put_sixteen_fields.Goals as goal

pub put_eight_fields-end-requires-clause-fields : goal.put_eight_fields-end-requires-clause-fields
put_eight_fields-end-requires-clause-fields c =
    first_fields 8 8 c.args.fields.now c.args.bytes.now c.requires.fields

pub put_eight_fields-last-requires-clause-fields : goal.put_eight_fields-last-requires-clause-fields
put_eight_fields-last-requires-clause-fields c =
    last_fields 8 8 c.args.fields.now c.args.bytes.now c.requires.fields
    c.put_eight_fields-end.result.1 c.put_eight_fields-end.ensures.size

pub returns : goal.returns
returns c =
    both_put 8 8 c.args.fields.now c.args.bytes.now c.requires.fields _ _ _ c.args.at
    c.put_eight_fields-end.result c.put_eight_fields-last.result c.put_eight_fields-end.ensures
    c.put_eight_fields-last.ensures
