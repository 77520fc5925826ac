use Rattle.std.proofs.Common.{◌≡◌, take, arith, rules, ◌∙◌}
use Rattle.std.proofs.lemmas.Grind.{common_steps}
use Rattle.xdr3.proofs.Lemmas.Shapes.Walks.{on_err}
use Rattle.listing3.proofs.PutsBytesLemmas.{kept_below, kept_by}
use Rattle.listing3.proofs.line_text.run.put_each.Goals as goal

pub returns-in_err-make_room-clause-err : goal.returns-in_err-make_room-clause-err
returns-in_err-make_room-clause-err c =
    let i = c.loop-field.invariant in
    on_err _ (kept_below c.args.at c.loop-field.end _ _ i.from c.make_room.ensures.kept ∙ i.kept)

pub loop-field-preserved : goal.loop-field-preserved
loop-field-preserved c =
    let i = c.loop-field.invariant in
    let after = c.put_number-end.ensures.within.0 in
    let made : take c.loop-field.end c.make_room.new.room.items
    ≡ take c.loop-field.end c.loop-field.room.items = c.make_room.ensures.kept in
    let lent : take c.loop-field.end c.deref_mut.result.now
    ≡ take c.loop-field.end c.make_room.new.room.items = search rules in
    let here =
    kept_by _ _ c.loop-field.end c.put_number-end.result _ c.put_number-end.ensures.puts after
    (omega (arith, c.in_ok-make_room.ensures.ok)) in
    let kept : take c.args.at c.put_number-end.new.room ≡ take c.args.at c.args.room.now.items =
    kept_below c.args.at c.loop-field.end _ _ i.from (here ∙ lent ∙ made) ∙ i.kept in
    record {
      size = grind (arith, common_steps);
      text = grind (arith, common_steps);
      within = search rules;
      from = omega (arith, i.from, after);
      kept = grind (arith, common_steps, kept);
      len = search rules;
    }
