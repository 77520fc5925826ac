-- Connections whose streams are in order.
use Rattle.std.specs.Prelude.{◌≡◌, List, Option, None, Some}
use Rattle.std.specs.List.{AllZip}
use Rattle.connections3.specs.declared.connection.Connection.{Connection}
use Rattle.connections3.specs.declared.connection.Flow.{Flow}
use Rattle.streams3.specs.Order.{IsOrderOf}
use Rattle.conversion3.specs.declared.ordered_connections.OrderedConnection.{OrderedConnection}
use Rattle.conversion3.specs.declared.ordered_connections.OrderedFlow.{OrderedFlow}

-- what an end sent, in order
abbrev pub IsOrderedFlow : Option Flow → Option OrderedFlow → Type 0
IsOrderedFlow None None = Unit {0}
IsOrderedFlow None (Some ordered) = ⊥
IsOrderedFlow (Some flow) None = ⊥
IsOrderedFlow (Some flow) (Some ordered) =
    IsOrderOf flow.stream ordered.stream × (ordered.numbers ≡ flow.numbers)

-- the connection with its streams in order
pub record IsOrderedConnection (c : Connection) (ordered : OrderedConnection) : Type 0 where
  pub ends : ordered.ends ≡ c.ends
  pub client : ordered.client ≡ c.client
  pub lower : IsOrderedFlow c.lower ordered.lower
  pub higher : IsOrderedFlow c.higher ordered.higher

-- so one by one
abbrev pub AreOrdered : List Connection → List OrderedConnection → Type 0
AreOrdered connections ordered = AllZip IsOrderedConnection connections ordered
