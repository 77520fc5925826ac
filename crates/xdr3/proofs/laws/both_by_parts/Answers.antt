use Rattle.xdr3.proofs.Lemmas.Shapes.Parts as parts
use Rattle.xdr3.proofs.laws.both_by_parts.Goals as goal

pub returns : goal.returns
returns c = parts.both_by_parts
