use Rattle.std.proofs.Common.{◌++◌, refl}
use Rattle.std.proofs.lemmas.Result.{on_err_weaker, on_ok_weaker}
use Rattle.std.proofs.KnownBytes.{Appends-trans}
use Rattle.canon3.proofs.Lemmas.Writing.SinkWritesLemmas.{front_of_first, front_of_second}
use Rattle.std.specs.List.{flat_map}
use Rattle.index3.specs.Indexes.{pair_bytes, run_bytes, stream_rows}
use Rattle.index3.proofs.WritingLemmas.{on_err}
use Rattle.index3.proofs.index.write_stream.Goals as goal

pub returns-clause-ok : goal.returns-clause-ok
unfolding stream_rows
returns-clause-ok g c =
    rw (← c.runs.ensures, ← c.pairs.ensures)
    (on_ok_weaker c.write_rows-2.result
    (Appends-trans (g.W.Sink.written c.args.sink.now) (g.W.Sink.written c.write_rows.new.sink)
    (g.W.Sink.written c.write_rows-2.new.sink) (flat_map run_bytes c.runs.result.now)
    (flat_map pair_bytes c.pairs.result.now) c.in_ok-write_rows.ensures.ok)
    c.write_rows-2.ensures.ok)

pub returns-clause-err : goal.returns-clause-err
unfolding stream_rows
returns-clause-err g c =
    let runs = flat_map run_bytes c.runs.result.now in
    let pairs = flat_map pair_bytes c.pairs.result.now in
    rw (← c.runs.ensures, ← c.pairs.ensures)
    (on_err_weaker c.write_rows-2.result
    (front_of_second (g.W.Sink.written c.args.sink.now) (g.W.Sink.written c.write_rows.new.sink)
    (g.W.Sink.written c.write_rows-2.new.sink) runs pairs (runs ++ pairs) refl
    c.in_ok-write_rows.ensures.ok) c.write_rows-2.ensures.err)

pub returns-in_err-write_rows-clause-err : goal.returns-in_err-write_rows-clause-err
unfolding stream_rows
returns-in_err-write_rows-clause-err g c =
    let runs = flat_map run_bytes c.runs.result.now in
    let pairs = flat_map pair_bytes c.args.stream.now.pairs in
    rw (← c.runs.ensures)
    (on_err c.from_residual.result
    (front_of_first (g.W.Sink.written c.args.sink.now) (g.W.Sink.written c.write_rows.new.sink) runs
    pairs (runs ++ pairs) refl c.in_err-write_rows.ensures.err))
