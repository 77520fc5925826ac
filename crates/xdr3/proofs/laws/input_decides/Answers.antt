use Rattle.xdr3.proofs.Lemmas.Reading.Inputs as lemmas
use Rattle.xdr3.proofs.laws.input_decides.Goals as goal

pub returns : goal.returns
returns c = lemmas.input_decides
