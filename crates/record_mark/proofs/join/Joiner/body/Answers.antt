use Rattle.record_mark.proofs.Common.{sym, ◌∙◌, subst, HasTaken}
use Rattle.record_mark.proofs.Stages.{stage_body}
use Rattle.record_mark.proofs.join.Joiner.body.Goals as goal

pub returns-clause-history : goal.returns-clause-history
returns-clause-history c bytes body h k =
    c.deref.ensures.value
    ∙ stage_body c.self.inside.stage c.self.inside.body.items bytes body c.self.invariant
    (subst (λ s. HasTaken s.taking bytes) (sym c.self.view_is) h) k
