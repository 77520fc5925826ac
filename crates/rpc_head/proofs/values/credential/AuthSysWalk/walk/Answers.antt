use Rattle.rpc_head.proofs.Common.{next_adds_some, on_err, steps_add, called}
use Rattle.rpc_head.proofs.values.credential.AuthSysWalk.walk.Goals as goal

pub returns-clause-ok : goal.returns-clause-ok
unfolding called
returns-clause-ok g c =
    rw (← c.body_len.ensures) (steps_add g.V.Visit.stands c.args.visitor.now c.word.new.self
    c.walk.new.visitor _ _ c.in_ok-word.ensures.ok c.in_ok-walk.ensures.ok)

pub returns-in_err-walk-clause-err : goal.returns-in_err-walk-clause-err
unfolding called
returns-in_err-walk-clause-err g c =
    rw (← c.body_len.ensures) (on_err c.from_residual-in_err-walk.result (next_adds_some
    g.V.Visit.stands c.args.visitor.now c.word.new.self c.walk.new.visitor
    _ _ c.in_ok-word.ensures.ok c.in_err-walk.ensures.err))
