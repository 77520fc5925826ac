use Rattle.std.proofs.lemmas.Result.{IfOk-weaker}
use Rattle.conversion3.proofs.SentLemmas.{runs_are_sent}
use Rattle.conversion3.proofs.sent.sent_runs.Goals as goal

pub returns-clause-sent : goal.returns-clause-sent
returns-clause-sent c =
    IfOk-weaker c.between.result _ _
    (λ parts between.
    runs_are_sent c.args.stream.now parts.items c.begin.result c.begin.ensures between)
    c.between.ensures
