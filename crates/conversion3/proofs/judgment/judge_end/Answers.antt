use Rattle.std.proofs.Common.{Bor, ℕ, List, Option, subst}
use Rattle.std.specs.List.{All}
use Rattle.std.specs.Option.{MatchOption, option_copied}
use Rattle.streams3.specs.declared.runs.Pair.{Pair}
use Rattle.streams3.specs.declared.runs.Run.{Run}
use Rattle.conversion3.specs.OrderedConnections.{IsOrderedFlow}
use Rattle.conversion3.specs.declared.ordered_connections.OrderedFlow.{OrderedFlow}
use Rattle.conversion3.specs.machinery.Ordered.{HasSameBytes, IsAgainOf}
use Rattle.conversion3.proofs.EndLemmas.{changed_judged, order_judged, whole_judged}
use Rattle.conversion3.proofs.judgment.judge_end.Goals as goal

-- what is known of the pairs in a file
abbrev KnowsPairs : (file : List ℕ) → List Pair → Option Run → Type 0
KnowsPairs file pairs found =
    MatchOption found (All (HasSameBytes file) pairs) (IsAgainOf file pairs)

pub returns-in-Some-order_flaw-clause-judged : goal.returns-in-Some-order_flaw-clause-judged
returns-in-Some-order_flaw-clause-judged g c = λ file shown allows order.
    order_judged file shown c.in-Some.sent.now c.in-Some-order_flaw.flaw
    (subst (λ (f : Option (Bor OrderedFlow)). IsOrderedFlow shown (option_copied f)) c.in-Some.is
    order) c.in-Some-order_flaw.ensures

pub returns-in-Some-2-clause-judged : goal.returns-in-Some-2-clause-judged
returns-in-Some-2-clause-judged g c = λ file shown allows order.
    let run = c.in-Some-2.run' in
    let known = subst (KnowsPairs file c.pairs.result.now) c.in-Some-2.is
    (c.in_ok-run.ensures.found file allows) in
    changed_judged file shown c.in-Some.sent.now run
    (subst (λ (f : Option (Bor OrderedFlow)). IsOrderedFlow shown (option_copied f)) c.in-Some.is
    order) c.in_default-order_flaw.ensures
    (subst (λ (pairs : List Pair). IsAgainOf file pairs run) c.pairs.ensures known)

pub returns-in-None-clause-judged : goal.returns-in-None-clause-judged
returns-in-None-clause-judged g c = λ file shown allows order.
    let known = subst (KnowsPairs file c.pairs.result.now) c.in-None.is
    (c.in_ok-run.ensures.found file allows) in
    whole_judged file shown c.in-Some.sent.now
    (subst (λ (f : Option (Bor OrderedFlow)). IsOrderedFlow shown (option_copied f)) c.in-Some.is
    order) c.in_default-order_flaw.ensures
    (subst (λ (pairs : List Pair). All (HasSameBytes file) pairs) c.pairs.ensures known)
