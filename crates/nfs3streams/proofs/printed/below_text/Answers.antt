use Rattle.nfs3streams.specs.Printed.{below_text}
use Rattle.nfs3streams.proofs.printed.below_text.Goals as goal

pub returns : goal.returns
unfolding below_text
returns c = c.format.ensures.ok
