use Rattle.capture3.proofs.Lemmas.Container.Determined.{same_entries}
use Rattle.capture3.proofs.laws.across_versions.Goals as goal

pub returns : goal.returns
returns c version other file again connections h k =
    same_entries version other file again connections h k
