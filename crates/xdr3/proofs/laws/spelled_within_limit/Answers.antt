use Rattle.xdr3.proofs.Lemmas.Reading.Within as lemmas
use Rattle.xdr3.proofs.laws.spelled_within_limit.Goals as goal

pub returns : goal.returns
returns c = lemmas.spelled_within
