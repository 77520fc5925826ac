use Rattle.canon3.proofs.Common.{ap, bytes_of}
use Rattle.canon3.proofs.Lemmas.Canonical.OneFormLemmas.{canonical-same}
use Rattle.canon3.proofs.Lemmas.Order.First.{same_from_bytes}
use Rattle.canon3.proofs.laws.canonical_bytes_decide.Goals as goal

pub returns-clause-same : goal.returns-clause-same
returns-clause-same c = same_from_bytes

pub returns-clause-bytes : goal.returns-clause-bytes
returns-clause-bytes c a b s = ap bytes_of (canonical-same s)

pub returns-clause-forms : goal.returns-clause-forms
returns-clause-forms c a b s = canonical-same s
