use Rattle.xdr3.proofs.Lemmas.Reading.Decided.{is_decided}
use Rattle.xdr3.proofs.laws.shapes_decide.Goals as goal

pub returns : goal.returns
returns c = is_decided
