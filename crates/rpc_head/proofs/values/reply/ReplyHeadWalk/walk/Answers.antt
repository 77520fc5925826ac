use Rattle.rpc_head.proofs.Common.{next_adds_some, on_err, steps_add, called}
use Rattle.rpc_head.proofs.values.reply.ReplyHeadWalk.walk.Goals as goal

pub returns-in_ok-walk-in-Denied-clause-ok : goal.returns-in_ok-walk-in-Denied-clause-ok
unfolding called
returns-in_ok-walk-in-Denied-clause-ok g c =
    rw c.in-Denied.is (steps_add g.V.Visit.stands c.args.visitor.now c.word-in-Denied.new.self
    c.walk-in-Denied.new.visitor _ _ c.in_ok-word-in-Denied.ensures.ok
    c.in_ok-walk-in-Denied.ensures.ok)

pub returns-in_err-walk-in-Denied-clause-err : goal.returns-in_err-walk-in-Denied-clause-err
unfolding called
returns-in_err-walk-in-Denied-clause-err g c =
    rw c.in-Denied.is (on_err c.from_residual-in_err-walk-in-Denied.result (next_adds_some
    g.V.Visit.stands c.args.visitor.now c.word-in-Denied.new.self
    c.walk-in-Denied.new.visitor _ _ c.in_ok-word-in-Denied.ensures.ok
    c.in_err-walk-in-Denied.ensures.err))
