use Rattle.std.proofs.Common.{◌∙◌, ◌++◌, List, [], ◌∷◌, sym, subst}
use Rattle.std.specs.List.{AllZip}
use Rattle.std.proofs.lemmas.Iterator.Adapters.{YieldsList-from_vec}
use Rattle.std.proofs.lemmas.Iterator.Consumers.{YieldsList-end}
use Rattle.std.proofs.lemmas.List.{map-id}
use Rattle.std.proofs.lemmas.Slice.Zip.{all_zipped_more}
use Rattle.connections3.specs.declared.connection.Connection.{Connection}
use Rattle.conversion3.specs.OrderedConnections.{IsOrderedConnection}
use Rattle.conversion3.specs.declared.ordered_connections.OrderedConnection.{OrderedConnection}
use Rattle.conversion3.proofs.ordered_connections.order_all.Goals as goal

pub loop-connection-preserved : goal.loop-connection-preserved
loop-connection-preserved c =
    let yielded = c.loop-connection.yielded in
    let one = c.in-Some.connection in
    subst (λ (l : List OrderedConnection). AllZip IsOrderedConnection (yielded ++ one ∷ []) l)
    (sym c.in_ok-push.ensures.items)
    (all_zipped_more IsOrderedConnection yielded c.loop-connection.ordered.items one
    c.in_ok-order.field-0 c.loop-connection.invariant c.in_ok-order.ensures)

pub returns : goal.returns
returns c =
    let gives = c.into_iter-connection-iterator.ensures.into_iter_gives in
    let end =
    YieldsList-end
    (YieldsList-from_vec {s = c.into_iter-connection-iterator.result} c.args.connections.items
    gives.0 (gives.1 ∙ c.args.connections.ok.0)) c.loop-connection.yielded
    c.loop-connection.connection-iterator c.loop-connection.yielded_by c.next.result
    c.next.new.self c.in-None.is c.next.ensures.steps in
    subst (λ (l : List Connection). AllZip IsOrderedConnection l c.loop-connection.ordered.items)
    (sym (map-id c.loop-connection.yielded) ∙ end.0) c.loop-connection.invariant
