use Rattle.index3.proofs.WritingLemmas.{on_err, rows_front}
use Rattle.index3.proofs.index.write_rows.Goals as goal

pub returns-in_err-write_row-clause-err : goal.returns-in_err-write_row-clause-err
returns-in_err-write_row-clause-err g c =
    on_err c.from_residual.result
    (rows_front g.R.Row.octets c.args.rows.now c.loop-row.row-index c.row-item.result
    (g.W.Sink.written c.args.sink.now) (g.W.Sink.written c.loop-row.sink)
    (g.W.Sink.written c.write_row.new.sink) c.loop-row-test.true c.row-item.is
    c.loop-row.invariant.written c.in_err-write_row.ensures.err)
