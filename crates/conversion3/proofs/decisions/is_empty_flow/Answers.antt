use Rattle.std.proofs.Common.{Bor, Option, subst}
use Rattle.std.specs.Option.{option_copied}
use Rattle.conversion3.specs.OrderedConnections.{IsOrderedFlow}
use Rattle.conversion3.specs.declared.ordered_connections.OrderedFlow.{OrderedFlow}
use Rattle.conversion3.proofs.DecisionLemmas.{flow_is_empty}
use Rattle.conversion3.proofs.decisions.is_empty_flow.Goals as goal

pub returns-in-Some : goal.returns-in-Some
returns-in-Some c = λ shown order.
    flow_is_empty shown c.in-Some.sent.now c.is_empty_stream.result
    (subst (λ (f : Option (Bor OrderedFlow)). IsOrderedFlow shown (option_copied f)) c.in-Some.is
    order) c.is_empty_stream.ensures
