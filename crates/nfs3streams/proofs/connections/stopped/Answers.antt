use Rattle.std.proofs.Common.{inl, inr}
use Rattle.nfs3streams.proofs.ConversionLemmas.{limit_or, tells_limit}
use Rattle.nfs3streams.proofs.connections.stopped.Goals as goal

pub returns-in-Taker-Long : goal.returns-in-Taker-Long
returns-in-Taker-Long c =
    tells_limit c.args.failed c.limit_report.result c.reported.result
    (limit_or c.limit_report.result _ (λ told prints. inl prints) c.limit_report.ensures)
    c.reported.ensures

pub returns-in-Taker-TooMany : goal.returns-in-Taker-TooMany
returns-in-Taker-TooMany c =
    tells_limit c.args.failed c.limit_report-in-Taker-TooMany.result
    c.reported-in-Taker-TooMany.result
    (limit_or c.limit_report-in-Taker-TooMany.result _ (λ told prints. inr prints)
    c.limit_report-in-Taker-TooMany.ensures) c.reported-in-Taker-TooMany.ensures
