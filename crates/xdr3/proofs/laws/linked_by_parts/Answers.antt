use Rattle.xdr3.proofs.Lemmas.Shapes.Parts as parts
use Rattle.xdr3.proofs.laws.linked_by_parts.Goals as goal

pub returns : goal.returns
returns c = parts.linked_by_parts
