use Rattle.xdr3.proofs.Lemmas.Shapes.Parts as lemmas
use Rattle.xdr3.proofs.laws.after_by_parts.Goals as goal

pub returns : goal.returns
returns c = lemmas.after_by_parts
