use Rattle.masking3.proofs.Lemmas.Masked.MaskedLemmas.{after, masked-append}
use Rattle.masking3.proofs.laws.masked_forms_of_prefixes.Goals as goal

pub returns : goal.returns
returns c ways a b = (after ways a b, masked-append ways a b)
