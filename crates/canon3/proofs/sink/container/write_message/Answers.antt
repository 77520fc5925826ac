use Rattle.std.proofs.Common.{arith, ◌++◌}
use Rattle.std.proofs.lemmas.Result.{on_err_weaker, on_ok_weaker}
use Rattle.xdr3.proofs.Lemmas.Shapes.Walks.{on_err}
use Rattle.canon3.proofs.Common.{Appends-trans}
use Rattle.canon3.proofs.Lemmas.Writing.SinkWritesLemmas.{front_of_first, front_of_second, parts_split}
use Rattle.canon3.proofs.sink.container.write_message.Goals as goal

pub returns-clause-ok : goal.returns-clause-ok
returns-clause-ok g c =
    rw (parts_split c.chunk_head.result c.args.front.now c.args.back.now _
    (omega (arith, c.saturating_add-len.ensures)) c.chunk_head.ensures)
    (on_ok_weaker c.write_all.result (λ appended.
    Appends-trans (g.W.Sink.written c.args.sink.now) (g.W.Sink.written c.write_both.new.sink)
    (g.W.Sink.written c.write_all.new.sink) (c.chunk_head.result ++ c.args.front.now)
    c.args.back.now c.in_ok-write_both.ensures.ok appended) c.write_all.ensures.ok)

pub returns-clause-err : goal.returns-clause-err
returns-clause-err g c =
    on_err_weaker c.write_all.result
    (front_of_second (g.W.Sink.written c.args.sink.now) (g.W.Sink.written c.write_both.new.sink)
    (g.W.Sink.written c.write_all.new.sink) (c.chunk_head.result ++ c.args.front.now)
    c.args.back.now _
    (parts_split c.chunk_head.result c.args.front.now c.args.back.now _
    (omega (arith, c.saturating_add-len.ensures)) c.chunk_head.ensures)
    c.in_ok-write_both.ensures.ok) c.write_all.ensures.err

pub returns-in_err-write_both-clause-err : goal.returns-in_err-write_both-clause-err
returns-in_err-write_both-clause-err g c =
    on_err c.from_residual.result
    (front_of_first (g.W.Sink.written c.args.sink.now) (g.W.Sink.written c.write_both.new.sink)
    (c.chunk_head.result ++ c.args.front.now) c.args.back.now _
    (parts_split c.chunk_head.result c.args.front.now c.args.back.now _
    (omega (arith, c.saturating_add-len.ensures)) c.chunk_head.ensures)
    c.in_err-write_both.ensures.err)
