use Rattle.canon3.proofs.Lemmas.Comparison.PartingLemmas.{some_parting, one_parting}
use Rattle.canon3.proofs.laws.captures_part_at_one_place.Goals as goal

pub returns-clause-some : goal.returns-clause-some
returns-clause-some c = some_parting

pub returns-clause-one : goal.returns-clause-one
returns-clause-one c = one_parting
