use Rattle.std.specs.Prelude.{◌≡◌, take}
use Rattle.std.specs.Io.KnownBytes.{Appends}
use Rattle.std.specs.List.{flat_map}
use Rattle.index3.specs.Indexes.{connection_bytes}
use Rattle.index3.proofs.index.write_connections.Given as goal

abbrev pub invariant-loop-connection : goal.invariant-loop-connection
invariant-loop-connection g l = record {
  written : Appends (g.W.Sink.written l.fn.sink) (g.W.Sink.written l.sink)
      (flat_map connection_bytes (take l.connection-index l.connections));
  count : g.W.Sink.failures l.sink ≡ g.W.Sink.failures l.fn.sink;
}
