use Rattle.rpc_head.proofs.Common.{next_adds_some, on_err, steps_add, called}
use Rattle.rpc_head.proofs.values.credential.CredWalk.walk.Goals as goal

pub returns-in_ok-walk_fields-in-Plain-clause-ok : goal.returns-in_ok-walk_fields-in-Plain-clause-ok
unfolding called
returns-in_ok-walk_fields-in-Plain-clause-ok g c =
    rw c.in-Plain.is (steps_add g.V.Visit.stands c.args.visitor.now c.word.new.self
    c.walk_fields.new.visitor _ _ c.in_ok-word-in-Plain.ensures.ok
    c.in_ok-walk_fields-in-Plain.ensures.ok)

pub returns-in_err-walk_fields-in-Plain-clause-err :
    goal.returns-in_err-walk_fields-in-Plain-clause-err
unfolding called
returns-in_err-walk_fields-in-Plain-clause-err g c =
    rw c.in-Plain.is (on_err c.from_residual-in_err-walk_fields-in-Plain.result
    (next_adds_some g.V.Visit.stands c.args.visitor.now c.word.new.self
    c.walk_fields.new.visitor _ _ c.in_ok-word-in-Plain.ensures.ok
    c.in_err-walk_fields-in-Plain.ensures.err))

pub returns-in_ok-walk-in-Sys-clause-ok : goal.returns-in_ok-walk-in-Sys-clause-ok
unfolding called
returns-in_ok-walk-in-Sys-clause-ok g c =
    rw c.in-Sys.is (steps_add g.V.Visit.stands c.args.visitor.now c.word-in-Sys.new.self
    c.walk.new.visitor _ _ c.in_ok-word-in-Sys.ensures.ok c.in_ok-walk-in-Sys.ensures.ok)

pub returns-in_err-walk-in-Sys-clause-err : goal.returns-in_err-walk-in-Sys-clause-err
unfolding called
returns-in_err-walk-in-Sys-clause-err g c =
    rw c.in-Sys.is (on_err c.from_residual-in_err-walk-in-Sys.result (next_adds_some
    g.V.Visit.stands c.args.visitor.now c.word-in-Sys.new.self c.walk.new.visitor
    _ _ c.in_ok-word-in-Sys.ensures.ok c.in_err-walk-in-Sys.ensures.err))
