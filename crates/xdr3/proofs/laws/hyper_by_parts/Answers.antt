use Rattle.xdr3.proofs.Lemmas.Shapes.Parts as parts
use Rattle.xdr3.proofs.laws.hyper_by_parts.Goals as goal

pub returns : goal.returns
returns c = parts.hyper_by_parts
