use Rattle.masking3.proofs.Lemmas.Masked.AgainLemmas.{again}
use Rattle.masking3.proofs.Lemmas.Classes.FirstEntries.{room_of}
use Rattle.masking3.proofs.laws.masking_again.Goals as goal

pub returns-clause-again : goal.returns-clause-again
returns-clause-again c ways entries room = again ways entries room

pub returns-clause-room : goal.returns-clause-room
returns-clause-room c entries first = room_of entries first
