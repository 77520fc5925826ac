use Rattle.std.proofs.Common.{refl, ◌++◌}
use Rattle.std.proofs.lemmas.Result.{on_err_weaker}
use Rattle.xdr3.proofs.Lemmas.Shapes.Walks.{on_err}
use Rattle.canon3.proofs.Lemmas.Writing.SinkWritesLemmas.{front_of_first, front_of_second}
use Rattle.canon3.proofs.sink.whole_writes.write_both.Goals as goal

pub returns-clause-err : goal.returns-clause-err
returns-clause-err g c =
    on_err_weaker c.write_all-2.result
    (front_of_second (g.W.Sink.written c.args.sink.now) (g.W.Sink.written c.write_all.new.sink)
    (g.W.Sink.written c.write_all-2.new.sink) c.args.first.now c.args.second.now
    (c.args.first.now ++ c.args.second.now) refl c.in_ok-write_all.ensures.ok)
    c.write_all-2.ensures.err

pub returns-in_err-write_all-clause-err : goal.returns-in_err-write_all-clause-err
returns-in_err-write_all-clause-err g c =
    on_err c.from_residual.result
    (front_of_first (g.W.Sink.written c.args.sink.now) (g.W.Sink.written c.write_all.new.sink)
    c.args.first.now c.args.second.now (c.args.first.now ++ c.args.second.now) refl
    c.in_err-write_all.ensures.err)
