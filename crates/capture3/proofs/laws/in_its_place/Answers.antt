use Rattle.capture3.proofs.Lemmas.Files.Placed.{in_its_place}
use Rattle.capture3.proofs.laws.in_its_place.Goals as goal

pub returns : goal.returns
returns c file fault first = in_its_place file fault first
