use Rattle.masking3.proofs.Lemmas.Classes.FirstEntries.{bytes_decide, decided, same_but_from_all}
use Rattle.masking3.proofs.Lemmas.Masked.MaskingMore.{all_kept_of_same, same_of_all_kept}
use Rattle.masking3.proofs.laws.masked_captures_are_the_same.Goals as goal

pub returns-clause-masked : goal.returns-clause-masked
returns-clause-masked c ways a b first second = decided ways a b first second

pub returns-clause-bytes : goal.returns-clause-bytes
returns-clause-bytes c ways a b first second = bytes_decide ways a b first second

pub returns-clause-weaker : goal.returns-clause-weaker
returns-clause-weaker c ways a b first second s = same_but_from_all ways a b first second s

pub returns-clause-unmasked : goal.returns-clause-unmasked
returns-clause-unmasked c ways a b keeps =
    (same_of_all_kept ways keeps a b, all_kept_of_same ways keeps a b)
