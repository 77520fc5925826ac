use Rattle.record_mark.proofs.Common.{subst, HasJoined, EndsRecord}
use Rattle.record_mark.proofs.Machines.{Tells}
use Rattle.record_mark.proofs.Joins.{join_tells, record_stops, too_long_stops, joining_runs}
use Rattle.record_mark.proofs.laws.joining.Goals as goal

pub returns-clause-whole : goal.returns-clause-whole
returns-clause-whole c bytes body = (
  record_stops bytes body,
  λ e. subst (λ r. Tells HasJoined EndsRecord bytes r) e (join_tells bytes),
)

pub returns-clause-long : goal.returns-clause-long
returns-clause-long c bytes at = (
  too_long_stops bytes at,
  λ e. subst (λ r. Tells HasJoined EndsRecord bytes r) e (join_tells bytes),
)

pub returns-clause-part : goal.returns-clause-part
returns-clause-part c bytes s = (
  joining_runs bytes s,
  λ e. subst (λ r. Tells HasJoined EndsRecord bytes r) e (join_tells bytes),
)
