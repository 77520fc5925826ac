use Rattle.xdr3.proofs.Lemmas.Shapes.Walks.{first_adds_some, next_adds_some, on_err, steps_add}
use Rattle.xdr3.specs.Item.{called}
use Rattle.nfs3_types.proofs.values.mount3.ExportWalk.walk.Goals as goal

pub returns-in_err-walk_fields-clause-err : goal.returns-in_err-walk_fields-clause-err
unfolding called
returns-in_err-walk_fields-clause-err g c =
    on_err c.from_residual.result (first_adds_some g.V.Visit.stands c.args.visitor.now
    c.walk_fields.new.visitor _ _ c.in_err-walk_fields.ensures.err)

pub returns-in_err-walk_linked-clause-err : goal.returns-in_err-walk_linked-clause-err
unfolding called
returns-in_err-walk_linked-clause-err g c =
    on_err c.from_residual-in_err-walk_linked.result (next_adds_some g.V.Visit.stands
    c.args.visitor.now c.walk_fields.new.visitor c.walk_linked.new.visitor
    _ _ c.in_ok-walk_fields.ensures.ok
    (rw (← c.as_slice.ensures.value) c.in_err-walk_linked.ensures.err))

pub returns-clause-ok : goal.returns-clause-ok
unfolding called
returns-clause-ok g c =
    steps_add g.V.Visit.stands c.args.visitor.now c.walk_fields.new.visitor
    c.walk_linked.new.visitor _ _ c.in_ok-walk_fields.ensures.ok
    (rw (← c.as_slice.ensures.value) c.in_ok-walk_linked.ensures.ok)
