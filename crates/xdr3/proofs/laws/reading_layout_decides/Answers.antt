use Rattle.xdr3.proofs.Lemmas.Shapes.Layouts.{layout_decides}
use Rattle.xdr3.proofs.laws.reading_layout_decides.Goals as goal

pub returns : goal.returns
returns c = layout_decides
