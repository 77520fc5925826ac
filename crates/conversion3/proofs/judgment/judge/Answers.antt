use Rattle.std.proofs.Common.{subst}
use Rattle.capture3.specs.declared.fault.Side.TheVariants.{Client, Server}
use Rattle.conversion3.specs.Whole.{side_flow}
use Rattle.conversion3.specs.machinery.Ends.{IsEndJudged}
use Rattle.conversion3.proofs.EndLemmas.{client_flawed, server_flawed, whole_if_none}
use Rattle.conversion3.proofs.judgment.judge.Goals as goal

pub returns-in-Some-clause-judged : goal.returns-in-Some-clause-judged
returns-in-Some-clause-judged g c = λ file connection allows order.
    let client = side_flow connection Client in
    client_flawed file connection c.in-Some.kind
    (subst (IsEndJudged file client) c.in-Some.is
    (c.in_ok-kind.ensures.judged file client allows (c.side.ensures connection order)))

pub returns-in_err-kind-2-clause-more : goal.returns-in_err-kind-2-clause-more
returns-in_err-kind-2-clause-more g c = λ file allows.
    c.judge_end.ensures.more file (c.judge_end-2.ensures.more file allows)

pub returns-in-Some-2-clause-more : goal.returns-in-Some-2-clause-more
returns-in-Some-2-clause-more g c = λ file allows.
    c.judge_end.ensures.more file (c.judge_end-2.ensures.more file allows)

pub returns-in-Some-2-clause-judged : goal.returns-in-Some-2-clause-judged
returns-in-Some-2-clause-judged g c = λ file connection allows order.
    let client = side_flow connection Client in
    let server = side_flow connection Server in
    server_flawed file connection c.in-Some-2.kind
    (whole_if_none file client c.in_ok-kind.field-0 c.in_default.not-Some
    (c.in_ok-kind.ensures.judged file client (c.judge_end-2.ensures.more file allows)
    (c.side.ensures connection order)))
    (subst (IsEndJudged file server) c.in-Some-2.is
    (c.in_ok-kind-2.ensures.judged file server allows (c.side-2.ensures connection order)))

pub returns-clause-more : goal.returns-clause-more
returns-clause-more g c = λ file allows.
    c.judge_end.ensures.more file (c.judge_end-2.ensures.more file allows)

pub returns-clause-judged : goal.returns-clause-judged
returns-clause-judged g c = λ file connection allows order.
    let client = side_flow connection Client in
    let server = side_flow connection Server in
    record {
      client =
          whole_if_none file client c.in_ok-kind.field-0 c.in_default.not-Some
          (c.in_ok-kind.ensures.judged file client (c.judge_end-2.ensures.more file allows)
          (c.side.ensures connection order));
      server =
          whole_if_none file server c.in_ok-kind-2.field-0 c.in_default-2.not-Some
          (c.in_ok-kind-2.ensures.judged file server allows (c.side-2.ensures connection order));
    }
