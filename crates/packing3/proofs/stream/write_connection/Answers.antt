use Rattle.packing3.proofs.Common.{refl, subst, ◌+◌, Appends, error_is, AppendsFront, Extent}
use Rattle.packing3.proofs.Chunks.{one_word}
use Rattle.packing3.proofs.Connections.{stops_at_mark, stops_in_client, writes_connection}
use Rattle.packing3.proofs.stream.write_connection.Goals as goal

pub returns-in_err-write_all-clause-writes : goal.returns-in_err-write_all-clause-writes
returns-in_err-write_all-clause-writes g c =
    let front =
    subst (AppendsFront (g.W.Sink.written c.args.sink.now) (g.W.Sink.written c.write_all.new.sink))
    c.pack_chunk.ensures c.in_err-write_all.ensures.err in
    rw (error_is _ _ c.from_residual.ensures) (stops_at_mark (g.C.Source.observed c.args.client.now)
    (g.S.Source.observed c.args.server.now) (g.W.Sink.written c.args.sink.now)
    (g.W.Sink.written c.write_all.new.sink) c.args.extent.now
    _ c.in_err-write_all.ensures.error front)

pub returns-in_err-write_stream-clause-writes : goal.returns-in_err-write_stream-clause-writes
returns-in_err-write_stream-clause-writes g c =
    let word =
    subst (Appends (g.W.Sink.written c.args.sink.now) (g.W.Sink.written c.write_all.new.sink))
    c.pack_chunk.ensures c.in_ok-write_all.ensures.ok in
    let begun : Extent =
    record {
      streamed = c.args.extent.now.streamed;
      at = c.args.extent.now.at + 4;
      within = c.extent-1.given.0;
    } in
    rw (error_is _ _ c.from_residual-in_err-write_stream.ensures)
    (stops_in_client (g.C.Source.observed c.args.client.now)
    (g.C.Source.observed c.write_stream.new.source)
    (g.S.Source.observed c.args.server.now) (g.W.Sink.written c.args.sink.now)
    (g.W.Sink.written c.write_all.new.sink) (g.W.Sink.written c.write_stream.new.sink)
    c.args.extent.now begun _ word (one_word 1 c.args.extent.now begun refl refl)
    c.in_err-write_stream.ensures.writes)

pub returns-clause-writes : goal.returns-clause-writes
returns-clause-writes g c =
    let word =
    subst (Appends (g.W.Sink.written c.args.sink.now) (g.W.Sink.written c.write_all.new.sink))
    c.pack_chunk.ensures c.in_ok-write_all.ensures.ok in
    let begun : Extent =
    record {
      streamed = c.args.extent.now.streamed;
      at = c.args.extent.now.at + 4;
      within = c.extent-1.given.0;
    } in
    writes_connection (g.C.Source.observed c.args.client.now)
    (g.C.Source.observed c.write_stream.new.source) (g.S.Source.observed c.args.server.now)
    (g.S.Source.observed c.write_stream-2.new.source) (g.W.Sink.written c.args.sink.now)
    (g.W.Sink.written c.write_all.new.sink) (g.W.Sink.written c.write_stream.new.sink)
    (g.W.Sink.written c.write_stream-2.new.sink) c.args.extent.now begun
    c.write_stream.new.extent c.write_stream-2.new.extent c.write_stream-2.result word
    (one_word 1 c.args.extent.now begun refl refl) c.in_ok-write_stream.ensures.writes
    c.write_stream-2.ensures.writes
