use Rattle.std.specs.List.{AllZip}
use Rattle.conversion3.specs.OrderedConnections.{IsOrderedConnection}
use Rattle.conversion3.proofs.ordered_connections.order_all.Given as goal

abbrev pub invariant-loop-connection : goal.invariant-loop-connection
invariant-loop-connection l = AllZip IsOrderedConnection l.yielded l.ordered.items
