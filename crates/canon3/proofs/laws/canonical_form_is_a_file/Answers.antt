use Rattle.canon3.proofs.Lemmas.Changes.Numbers.{canonical_is_file}
use Rattle.canon3.proofs.laws.canonical_form_is_a_file.Goals as goal

pub returns : goal.returns
returns c = canonical_is_file
