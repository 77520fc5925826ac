use Rattle.program3.proofs.EndingLemmas.{aside}
use Rattle.program3.proofs.reports.ending.end_report.Goals as goal

pub returns-then-ended : goal.returns-then-ended
returns-then-ended c =
    aside c.on_standard_error.result c.in_ok-report.report c.args.ended.now.outcome
    c.args.ended.now.is_aside c.if-ended.true c.in_ok-report.ensures c.on_standard_error.ensures
