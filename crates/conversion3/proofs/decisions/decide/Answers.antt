use Rattle.std.proofs.Common.{◌∙◌, sym, subst}
use Rattle.std.proofs.lemmas.Bool.{false≢true}
use Rattle.conversion3.specs.Judgments.{IsJudged}
use Rattle.conversion3.proofs.decisions.decide.Goals as goal

pub returns-in-Ok-None-clause-more : goal.returns-in-Ok-None-clause-more
returns-in-Ok-None-clause-more g c = λ file allows.
    c.is_chosen.ensures.more file (c.judge.ensures.more file allows)

pub returns-in-Ok-Some-clause-more : goal.returns-in-Ok-Some-clause-more
returns-in-Ok-Some-clause-more g c = λ file allows.
    c.is_chosen.ensures.more file (c.judge.ensures.more file allows)

pub returns-in-Err-clause-more : goal.returns-in-Err-clause-more
returns-in-Err-clause-more g c = λ file allows.
    c.is_chosen.ensures.more file (c.judge.ensures.more file allows)

pub returns-in-Ok-None-clause-decided : goal.returns-in-Ok-None-clause-decided
returns-in-Ok-None-clause-decided g c = λ file connection allows order. (
  (
    (c.in_ok-is_chosen.ensures.chosen file connection (c.judge.ensures.more file allows) order).0
        c.if-not-branch.false,
    λ empty.
        false≢true (sym c.if-is_empty.false ∙ (c.is_empty.ensures connection order).1 empty),
  ),
  subst (IsJudged file connection) c.in-Ok-None.field-0-is
      (c.in-Ok-None.ensures.judged file connection allows order),
)

pub returns-in-Ok-Some-clause-decided : goal.returns-in-Ok-Some-clause-decided
returns-in-Ok-Some-clause-decided g c = λ file connection allows order. (
  (
    (c.in_ok-is_chosen.ensures.chosen file connection (c.judge.ensures.more file allows) order).0
        c.if-not-branch.false,
    λ empty.
        false≢true (sym c.if-is_empty.false ∙ (c.is_empty.ensures connection order).1 empty),
  ),
  subst (IsJudged file connection) c.in-Ok-Some.field-0-is
      (c.in-Ok-Some.ensures.judged file connection allows order),
)
