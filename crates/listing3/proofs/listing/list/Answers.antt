use Rattle.listing3.proofs.ListingLemmas.{shown_fronts}
use Rattle.listing3.proofs.listing.list.Goals as goal

pub write_entries-requires-clause-prefixes : goal.write_entries-requires-clause-prefixes
write_entries-requires-clause-prefixes g c = shown_fronts
