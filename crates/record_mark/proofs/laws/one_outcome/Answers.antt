use Rattle.record_mark.proofs.Outcomes.{one_body, one_place, whole_alone, too_long_alone}
use Rattle.record_mark.proofs.laws.one_outcome.Goals as goal

pub returns-clause-body : goal.returns-clause-body
returns-clause-body c = one_body

pub returns-clause-place : goal.returns-clause-place
returns-clause-place c = one_place

pub returns-clause-whole : goal.returns-clause-whole
returns-clause-whole c = whole_alone

pub returns-clause-long : goal.returns-clause-long
returns-clause-long c = too_long_alone
