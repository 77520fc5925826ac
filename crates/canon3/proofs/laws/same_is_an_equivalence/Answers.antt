use Rattle.canon3.proofs.Lemmas.Renaming.Equality.{same_reflexive, same_symmetric, same_transitive}
use Rattle.canon3.proofs.Lemmas.Order.First.{first_in_order}
use Rattle.canon3.proofs.laws.same_is_an_equivalence.Goals as goal

pub returns-clause-reflexive : goal.returns-clause-reflexive
returns-clause-reflexive c a f = same_reflexive a (first_in_order a f)

pub returns-clause-symmetric : goal.returns-clause-symmetric
returns-clause-symmetric c = same_symmetric

pub returns-clause-transitive : goal.returns-clause-transitive
returns-clause-transitive c = same_transitive
