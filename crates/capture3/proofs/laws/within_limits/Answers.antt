use Rattle.capture3.proofs.Lemmas.Reached.ReachedMore.{reached_within}
use Rattle.capture3.proofs.Lemmas.Reached.Limits.{typed_within}
use Rattle.capture3.proofs.laws.within_limits.Goals as goal

pub returns-clause-typed : goal.returns-clause-typed
returns-clause-typed c file entries typed = typed_within file entries typed

pub returns-clause-reached : goal.returns-clause-reached
returns-clause-reached c bytes entries reached = reached_within bytes entries reached
