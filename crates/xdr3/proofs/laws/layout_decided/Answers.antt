use Rattle.xdr3.proofs.Lemmas.Shapes.Layouts.{layout_is_decided}
use Rattle.xdr3.proofs.laws.layout_decided.Goals as goal

pub returns : goal.returns
returns c = layout_is_decided
