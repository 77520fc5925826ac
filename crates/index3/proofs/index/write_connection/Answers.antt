use Rattle.std.proofs.Common.{◌++◌, refl}
use Rattle.std.proofs.lemmas.Result.{on_err_weaker, on_ok_weaker}
use Rattle.std.proofs.KnownBytes.{Appends-trans}
use Rattle.canon3.proofs.Lemmas.Writing.SinkWritesLemmas.{front_of_first, front_of_second}
use Rattle.index3.proofs.WritingLemmas.{on_err}
use Rattle.index3.specs.Indexes.{connection_bytes, connection_head, flow_rows}
use Rattle.index3.proofs.index.write_connection.Goals as goal

pub returns-in_err-write_head-clause-err : goal.returns-in_err-write_head-clause-err
unfolding connection_bytes
returns-in_err-write_head-clause-err g c =
    let connection = c.args.connection.now in
    on_err c.from_residual.result
    (front_of_first (g.W.Sink.written c.args.sink.now)
    (g.W.Sink.written c.write_head.new.sink) (connection_head connection)
    (flow_rows connection.lower ++ flow_rows connection.higher) (connection_bytes connection) refl
    c.in_err-write_head.ensures.err)

pub returns-in_err-write_flow-clause-err : goal.returns-in_err-write_flow-clause-err
unfolding connection_bytes
returns-in_err-write_flow-clause-err g c =
    let connection = c.args.connection.now in
    let rows = flow_rows connection.lower ++ flow_rows connection.higher in
    let behind = g.W.Sink.written c.write_head.new.sink in
    let last = g.W.Sink.written c.write_flow.new.sink in
    on_err c.from_residual-in_err-write_flow.result
    (front_of_second (g.W.Sink.written c.args.sink.now) behind last (connection_head connection)
    rows (connection_bytes connection) refl c.in_ok-write_head.ensures.ok
    (front_of_first behind last (flow_rows connection.lower) (flow_rows connection.higher) rows refl
    c.in_err-write_flow.ensures.err))

pub returns-clause-ok : goal.returns-clause-ok
unfolding connection_bytes
returns-clause-ok g c =
    let connection = c.args.connection.now in
    let rows = flow_rows connection.lower ++ flow_rows connection.higher in
    let behind = g.W.Sink.written c.write_head.new.sink in
    let last = g.W.Sink.written c.write_flow-2.new.sink in
    on_ok_weaker c.write_flow-2.result (λ more.
    Appends-trans (g.W.Sink.written c.args.sink.now) behind last (connection_head connection) rows
    c.in_ok-write_head.ensures.ok
    (Appends-trans behind (g.W.Sink.written c.write_flow.new.sink) last
    (flow_rows connection.lower) (flow_rows connection.higher) c.in_ok-write_flow.ensures.ok more))
    c.write_flow-2.ensures.ok

pub returns-clause-err : goal.returns-clause-err
unfolding connection_bytes
returns-clause-err g c =
    let connection = c.args.connection.now in
    let rows = flow_rows connection.lower ++ flow_rows connection.higher in
    let behind = g.W.Sink.written c.write_head.new.sink in
    let last = g.W.Sink.written c.write_flow-2.new.sink in
    on_err_weaker c.write_flow-2.result (λ more.
    front_of_second (g.W.Sink.written c.args.sink.now) behind last (connection_head connection)
    rows (connection_bytes connection) refl c.in_ok-write_head.ensures.ok
    (front_of_second behind (g.W.Sink.written c.write_flow.new.sink) last
    (flow_rows connection.lower) (flow_rows connection.higher) rows refl
    c.in_ok-write_flow.ensures.ok more)) c.write_flow-2.ensures.err
