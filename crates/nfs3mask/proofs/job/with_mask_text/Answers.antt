use Rattle.std.proofs.Common.{◌∙◌, ap, subst}
use Rattle.program3.specs.declared.outcome.Outcome.TheVariants as outcomes
use Rattle.nfs3mask.specs.Masking.{RewritesMasked}
use Rattle.nfs3mask.proofs.job.with_mask_text.Goals as goal

pub returns-in-Ok : goal.returns-in-Ok
returns-in-Ok c run job told rewrites = (
  told,
  subst (RewritesMasked run job) (c.in-Counted.is ∙ ap outcomes.Counted c.in-Ok.is) rewrites,
)

pub returns-in-Err : goal.returns-in-Err
returns-in-Err c run job told rewrites =
    subst (RewritesMasked run job) (c.in-Counted.is ∙ ap outcomes.Counted c.in-Err.is) rewrites
