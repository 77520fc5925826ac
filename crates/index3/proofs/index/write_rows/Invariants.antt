use Rattle.std.specs.Prelude.{◌≡◌, take}
use Rattle.std.specs.Io.KnownBytes.{Appends}
use Rattle.std.specs.List.{flat_map}
use Rattle.index3.proofs.index.write_rows.Given as goal

abbrev pub invariant-loop-row : goal.invariant-loop-row
invariant-loop-row g l = record {
  written : Appends (g.W.Sink.written l.fn.sink) (g.W.Sink.written l.sink)
      (flat_map g.R.Row.octets (take l.row-index l.rows));
  count : g.W.Sink.failures l.sink ≡ g.W.Sink.failures l.fn.sink;
}
