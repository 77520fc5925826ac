use Rattle.std.proofs.Common.{[], ◌∷◌, ◌++◌, refl, subst, sym}
use Rattle.std.proofs.lemmas.Result.{on_ok_weaker}
use Rattle.connections3.specs.Connections.{ShowsFlow}
use Rattle.connections3.specs.Ends.{other_end}
use Rattle.connections3.proofs.ConnectionsLemmas.{flow_answered, flow_not_begun}
use Rattle.connections3.proofs.connection.take_answer.Goals as goal

pub returns-in-Some-clause-ok : goal.returns-in-Some-clause-ok
returns-in-Some-clause-ok c =
    on_ok_weaker c.take_mark.result
    (λ adds packets h.
    let p = c.args.packet.now in
    flow_answered c.in-Some.flow
    (record { stream = c.take_mark.new.stream; numbers = c.in-Some.flow.numbers }) packets p refl
    adds (subst (λ f. ShowsFlow f (other_end p.from) packets) c.in-Some.is h))
    c.take_mark.ensures.ok

pub returns-in-None-clause-ok : goal.returns-in-None-clause-ok
returns-in-None-clause-ok c = λ packets h.
    let p = c.args.packet.now in
    subst (λ f. ShowsFlow f (other_end p.from) (packets ++ p ∷ [])) (sym c.in-None.is)
    (flow_not_begun packets p (subst (λ f. ShowsFlow f (other_end p.from) packets) c.in-None.is h))
