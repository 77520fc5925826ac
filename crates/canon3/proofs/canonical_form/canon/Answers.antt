use Rattle.canon3.proofs.Lemmas.Canonical.Growing.{form_fronts}
use Rattle.canon3.proofs.canonical_form.canon.Goals as goal

pub write_entries-requires-clause-prefixes : goal.write_entries-requires-clause-prefixes
write_entries-requires-clause-prefixes g c = form_fronts
