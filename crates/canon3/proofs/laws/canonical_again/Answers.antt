use Rattle.canon3.proofs.Lemmas.Canonical.CanonicalLemmas.{same-canonical}
use Rattle.canon3.proofs.Lemmas.Renaming.Equality.{canonical-canonical}
use Rattle.canon3.proofs.Lemmas.Order.First.{first_in_order}
use Rattle.canon3.proofs.laws.canonical_again.Goals as goal

pub returns-clause-again : goal.returns-clause-again
returns-clause-again c a f = canonical-canonical a (first_in_order a f)

pub returns-clause-same : goal.returns-clause-same
returns-clause-same c a f = same-canonical a (first_in_order a f)
