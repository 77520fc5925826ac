use Rattle.listing3.proofs.Runs.{both_put}
use Rattle.listing3.proofs.line_text.run.put_eight_fields.Goals as goal

pub returns : goal.returns
returns c =
    both_put 4 4 c.args.fields.now c.args.bytes.now c.requires.fields _ _ _ c.args.at
    c.put_four_fields-end.result c.put_four_fields-last.result c.put_four_fields-end.ensures
    c.put_four_fields-last.ensures
