use Rattle.std.proofs.Common.{ap, ◌∙◌}
use Rattle.record_mark.proofs.Stages.{is_unbegun, has_taken_nothing}
use Rattle.record_mark.proofs.Takings.{is_between}
use Rattle.record_mark.proofs.join.Joiner.is_between.Goals as goal

pub returns-in_default-clause-state : goal.returns-in_default-clause-state
returns-in_default-clause-state c = (
  λ h. cc,
  λ e.
      absurd (c.in_default.not-Unbegun (is_unbegun c.self.inside.stage
      c.self.inside.body.items c.self.invariant
      (ap (λ s. s.taking) c.self.view_is ∙ e))),
)

pub returns-in_default-clause-history : goal.returns-in_default-clause-history
returns-in_default-clause-history c bytes h = (
  λ k. cc,
  λ none.
      absurd (c.in_default.not-Unbegun (is_unbegun c.self.inside.stage
      c.self.inside.body.items c.self.invariant
      (ap (λ s. s.taking) c.self.view_is ∙ has_taken_nothing _ bytes h none))),
)

pub returns-in_default-clause-running : goal.returns-in_default-clause-running
returns-in_default-clause-running c h = (
  λ k. cc,
  λ e.
      absurd (c.in_default.not-Unbegun (is_unbegun c.self.inside.stage
      c.self.inside.body.items c.self.invariant
      (ap (λ s. s.taking) c.self.view_is ∙ is_between _ h e))),
)
