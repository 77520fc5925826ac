use Rattle.std.proofs.Common.{◌++◌, length, refl}
use Rattle.std.specs.List.{flat_map}
use Rattle.std.proofs.lemmas.Result.{on_err_weaker}
use Rattle.canon3.proofs.Lemmas.Writing.SinkWritesLemmas.{front_of_first, front_of_second}
use Rattle.index3.proofs.WritingLemmas.{on_err}
use Rattle.index3.specs.Indexes.{bytes_of_index, connection_bytes, decision_bytes, frame_bytes, index_head, index_seen}
use Rattle.index3.proofs.index.write_index.Goals as goal

pub returns-in_err-write_index_head-clause-err : goal.returns-in_err-write_index_head-clause-err
returns-in_err-write_index_head-clause-err g c =
    let i = index_seen c.args.indexed.now in
    on_err c.from_residual.result
    (front_of_first (g.W.Sink.written c.args.sink.now)
    (g.W.Sink.written c.write_index_head.new.sink)
    (index_head i.end (length i.frames) (length i.connections))
    (flat_map frame_bytes i.frames
    ++ (flat_map decision_bytes i.decisions ++ flat_map connection_bytes i.connections))
    (bytes_of_index i) refl c.in_err-write_index_head.ensures.err)

pub returns-in_err-write_rows-clause-err : goal.returns-in_err-write_rows-clause-err
returns-in_err-write_rows-clause-err g c =
    let i = index_seen c.args.indexed.now in
    let behind = g.W.Sink.written c.write_index_head.new.sink in
    let last = g.W.Sink.written c.write_rows.new.sink in
    let said = flat_map decision_bytes i.decisions ++ flat_map connection_bytes i.connections in
    on_err c.from_residual-in_err-write_rows.result
    (front_of_second (g.W.Sink.written c.args.sink.now) behind last
    (index_head i.end (length i.frames) (length i.connections))
    (flat_map frame_bytes i.frames ++ said) (bytes_of_index i) refl
    c.in_ok-write_index_head.ensures.ok
    (front_of_first behind last (flat_map frame_bytes i.frames) said
    (flat_map frame_bytes i.frames ++ said) refl c.in_err-write_rows.ensures.err))

pub returns-in_err-write_rows-2-clause-err : goal.returns-in_err-write_rows-2-clause-err
returns-in_err-write_rows-2-clause-err g c =
    let i = index_seen c.args.indexed.now in
    let behind = g.W.Sink.written c.write_index_head.new.sink in
    let middle = g.W.Sink.written c.write_rows.new.sink in
    let last = g.W.Sink.written c.write_rows-2.new.sink in
    let said = flat_map decision_bytes i.decisions ++ flat_map connection_bytes i.connections in
    on_err c.from_residual-in_err-write_rows-2.result
    (front_of_second (g.W.Sink.written c.args.sink.now) behind last
    (index_head i.end (length i.frames) (length i.connections))
    (flat_map frame_bytes i.frames ++ said) (bytes_of_index i) refl
    c.in_ok-write_index_head.ensures.ok
    (front_of_second behind middle last (flat_map frame_bytes i.frames) said
    (flat_map frame_bytes i.frames ++ said) refl c.in_ok-write_rows.ensures.ok
    (front_of_first middle last (flat_map decision_bytes i.decisions)
    (flat_map connection_bytes i.connections) said refl c.in_err-write_rows-2.ensures.err)))

pub returns-clause-err : goal.returns-clause-err
returns-clause-err g c =
    let i = index_seen c.args.indexed.now in
    let behind = g.W.Sink.written c.write_index_head.new.sink in
    let middle = g.W.Sink.written c.write_rows.new.sink in
    let then = g.W.Sink.written c.write_rows-2.new.sink in
    let last = g.W.Sink.written c.write_connections.new.sink in
    let said = flat_map decision_bytes i.decisions ++ flat_map connection_bytes i.connections in
    on_err_weaker c.write_connections.result (λ more.
    front_of_second (g.W.Sink.written c.args.sink.now) behind last
    (index_head i.end (length i.frames) (length i.connections))
    (flat_map frame_bytes i.frames ++ said) (bytes_of_index i) refl
    c.in_ok-write_index_head.ensures.ok
    (front_of_second behind middle last (flat_map frame_bytes i.frames) said
    (flat_map frame_bytes i.frames ++ said) refl c.in_ok-write_rows.ensures.ok
    (front_of_second middle then last (flat_map decision_bytes i.decisions)
    (flat_map connection_bytes i.connections) said refl c.in_ok-write_rows-2.ensures.ok more)))
    c.write_connections.ensures.err
