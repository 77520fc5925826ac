use Rattle.masking3.proofs.Lemmas.Classes.FirstEntries.{same_but_reflexive, same_but_symmetric, same_but_transitive}
use Rattle.masking3.proofs.laws.same_but_is_an_equivalence.Goals as goal

pub returns-clause-reflexive : goal.returns-clause-reflexive
returns-clause-reflexive c ways a first = same_but_reflexive ways a first

pub returns-clause-symmetric : goal.returns-clause-symmetric
returns-clause-symmetric c ways a b first second s = same_but_symmetric ways a b first second s

pub returns-clause-transitive : goal.returns-clause-transitive
returns-clause-transitive c ways a b c2 first second third s t =
    same_but_transitive ways a b c2 first second third s t
