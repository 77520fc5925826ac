use Rattle.xdr3.proofs.Common.{[], ◌∷◌, Word}
use Rattle.xdr3.proofs.Lemmas.Shapes.Walks.{on_err, some_second}
use Rattle.xdr3.proofs.combine.walk_optional.Goals as goal

pub returns-in_err-walk-in-Some-clause-err : goal.returns-in_err-walk-in-Some-clause-err
returns-in_err-walk-in-Some-clause-err g c =
    rw c.in-Some.is
    (on_err c.from_residual-in_err-walk-in-Some.result
    (some_second g.V.Visit.stands c.args.visitor.now c.word-in-Some.new.self c.walk.new.visitor
    (Word c.args.name.now 1 ∷ []) (g.T.Walk.items c.in-Some.x) c.in_ok-word-in-Some.ensures.ok
    c.in_err-walk-in-Some.ensures.err))
