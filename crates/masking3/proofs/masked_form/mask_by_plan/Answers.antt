use Rattle.masking3.proofs.Lemmas.Masked.MaskedLemmas.{form_fronts}
use Rattle.masking3.proofs.masked_form.mask_by_plan.Goals as goal

pub write_entries-requires-clause-prefixes : goal.write_entries-requires-clause-prefixes
write_entries-requires-clause-prefixes g c = form_fronts g.P.Plan.ways
