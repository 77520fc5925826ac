use Rattle.nfs3streams.specs.Printed.{inside_text}
use Rattle.nfs3streams.proofs.printed.inside_text.Goals as goal

pub returns : goal.returns
unfolding inside_text
returns c = c.format.ensures.ok
