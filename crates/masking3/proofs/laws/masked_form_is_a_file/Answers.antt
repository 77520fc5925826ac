use Rattle.masking3.proofs.Lemmas.Classes.FirstEntries.{masked_first}
use Rattle.masking3.proofs.Lemmas.Masked.MaskedFiles.{masked_is_file}
use Rattle.masking3.proofs.laws.masked_form_is_a_file.Goals as goal

pub returns-clause-whole : goal.returns-clause-whole
returns-clause-whole c = masked_is_file

pub returns-clause-first : goal.returns-clause-first
returns-clause-first c ways entries first = masked_first ways entries first
