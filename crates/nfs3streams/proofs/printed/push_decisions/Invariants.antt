use Rattle.std.specs.Prelude.{◌≡◌, ◌++◌, List, string_bytes, take}
use Rattle.connections3.specs.declared.connection.Connection.{Connection}
use Rattle.conversion3.specs.OrderedConnections.{AreOrdered}
use Rattle.nfs3streams.specs.Printed.{decisions_text}
use Rattle.nfs3streams.proofs.printed.push_decisions.Given as goal

abbrev pub invariant-loop-index : goal.invariant-loop-index
invariant-loop-index l = (shown : List Connection) → AreOrdered shown l.connections
    → string_bytes l.text ≡ string_bytes l.fn.text
    ++ decisions_text 1 (take l.index shown) (take l.index l.decisions)
