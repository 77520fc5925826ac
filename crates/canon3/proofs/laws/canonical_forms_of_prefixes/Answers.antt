use Rattle.canon3.specs.Canonical.{canonical}
use Rattle.canon3.proofs.Lemmas.Canonical.CanonicalStreamLemmas.{canonical-after}
use Rattle.canon3.proofs.Lemmas.Order.Prefixes.{canonical-take, bytes_of-take}
use Rattle.canon3.proofs.Lemmas.Order.First.{first_in_order, first_taken}
use Rattle.canon3.proofs.laws.canonical_forms_of_prefixes.Goals as goal

pub returns-clause-entries : goal.returns-clause-entries
returns-clause-entries c i a f = canonical-take i a (first_in_order a f)

pub returns-clause-bytes : goal.returns-clause-bytes
returns-clause-bytes c i a = bytes_of-take i (canonical a)

pub returns-clause-one_by_one : goal.returns-clause-one_by_one
returns-clause-one_by_one c a f = canonical-after a (first_in_order a f)

pub returns-clause-first : goal.returns-clause-first
returns-clause-first c = first_taken
