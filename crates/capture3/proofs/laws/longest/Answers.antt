use Rattle.capture3.proofs.Lemmas.Container.Sizes.{capture_size, clean_size}
use Rattle.capture3.proofs.laws.longest.Goals as goal

pub returns-clause-captures : goal.returns-clause-captures
returns-clause-captures c version file connections h = capture_size version file connections h

pub returns-clause-clean : goal.returns-clause-clean
returns-clause-clean c bytes are clean = clean_size bytes are clean
