use Rattle.procs3.proofs.Common.{next_adds_some, on_err, steps_add, called}
use Rattle.procs3.proofs.values.walks.walk_listing.Goals as goal

pub returns-in_err-walk_fields-2-clause-err : goal.returns-in_err-walk_fields-2-clause-err
unfolding called
returns-in_err-walk_fields-2-clause-err g c =
    on_err c.from_residual-in_err-walk_fields-2.result (
    next_adds_some g.V.Visit.stands c.args.visitor.now c.walk.new.visitor
    c.walk_fields-2.new.visitor _ _ c.in_ok-walk.ensures.ok
    (next_adds_some g.V.Visit.stands c.walk.new.visitor c.walk_fields.new.visitor
    c.walk_fields-2.new.visitor _ _ c.in_ok-walk_fields.ensures.ok
    (next_adds_some g.V.Visit.stands c.walk_fields.new.visitor c.walk_linked.new.visitor
    c.walk_fields-2.new.visitor
    _ _ c.in_ok-walk_linked.ensures.ok
    (rw (← c.from.ensures) c.in_err-walk_fields-2.ensures.err))))

pub returns-clause-ok : goal.returns-clause-ok
unfolding called
returns-clause-ok g c =
    steps_add g.V.Visit.stands c.args.visitor.now c.walk.new.visitor c.walk_fields-2.new.visitor
    _ _ c.in_ok-walk.ensures.ok
    (steps_add g.V.Visit.stands c.walk.new.visitor c.walk_fields.new.visitor
    c.walk_fields-2.new.visitor _ _ c.in_ok-walk_fields.ensures.ok
    (steps_add g.V.Visit.stands c.walk_fields.new.visitor c.walk_linked.new.visitor
    c.walk_fields-2.new.visitor
    _ _ c.in_ok-walk_linked.ensures.ok
    (rw (← c.from.ensures) c.in_ok-walk_fields-2.ensures.ok)))
