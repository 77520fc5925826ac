use Rattle.record_mark.proofs.Outcomes.{unfinished_goes_on, shorter_is_unfinished}
use Rattle.record_mark.proofs.laws.beginnings.Goals as goal

pub returns-clause-goes_on : goal.returns-clause-goes_on
returns-clause-goes_on c = unfinished_goes_on

pub returns-clause-shorter : goal.returns-clause-shorter
returns-clause-shorter c = shorter_is_unfinished
