use Rattle.std.proofs.Common.{◌∙◌}
use Rattle.index3.specs.Indexes.{connection_bytes}
use Rattle.index3.proofs.WritingLemmas.{on_err, rows_front, rows_more}
use Rattle.index3.proofs.index.write_connections.Goals as goal

pub returns-in_err-write_connection-clause-err : goal.returns-in_err-write_connection-clause-err
returns-in_err-write_connection-clause-err g c =
    on_err c.from_residual.result
    (rows_front connection_bytes c.args.connections.now c.loop-connection.connection-index
    c.connection-item.result (g.W.Sink.written c.args.sink.now)
    (g.W.Sink.written c.loop-connection.sink) (g.W.Sink.written c.write_connection.new.sink)
    c.loop-connection-test.true c.connection-item.is c.loop-connection.invariant.written
    c.in_err-write_connection.ensures.err)

pub loop-connection-preserved : goal.loop-connection-preserved
loop-connection-preserved g c = record {
  written =
      rows_more connection_bytes c.args.connections.now c.loop-connection.connection-index
      c.connection-item.result (g.W.Sink.written c.args.sink.now)
      (g.W.Sink.written c.loop-connection.sink) (g.W.Sink.written c.write_connection.new.sink)
      c.loop-connection-test.true c.connection-item.is c.loop-connection.invariant.written
      c.in_ok-write_connection.ensures.ok;
  count = c.in_ok-write_connection.ensures.count ∙ c.loop-connection.invariant.count;
}
