use Rattle.packing3.proofs.Common.{rules, arith, refl, subst, ◌≤◌, ◌<◌, ◌∙◌, Appends, error_is, AppendsFront, full_size}
use Rattle.packing3.proofs.Chunks.{more_full, one_word, stops_at_end, stops_in_chunk, whole_stream}
use Rattle.packing3.proofs.stream.write_stream.Goals as goal

pub returns-in_err-count-clause-writes : goal.returns-in_err-count-clause-writes
returns-in_err-count-clause-writes g c =
    rw (error_is _ _ c.from_residual.ensures)
    (stops_in_chunk (g.R.Source.observed c.args.source.now)
    (g.R.Source.observed c.loop-count.source)
    (g.R.Source.observed c.write_chunk.new.source) (g.W.Sink.written c.args.sink.now)
    (g.W.Sink.written c.loop-count.sink) (g.W.Sink.written c.write_chunk.new.sink)
    c.args.extent.now c.loop-count.extent _ c.loop-count.invariant.full
    c.in_err-count.ensures.writes)

pub loop-count-preserved : goal.loop-count-preserved
loop-count-preserved g c =
    let inv = c.loop-count.invariant in
    let whole : full_size ≤ c.in_ok-count.count = search rules in
    record {
      block = search rules;
      small = omega (arith, inv.small, c.in_ok-count.ensures.small);
      full =
          more_full (g.R.Source.observed c.args.source.now)
          (g.R.Source.observed c.loop-count.source)
          (g.R.Source.observed c.write_chunk.new.source) (g.W.Sink.written c.args.sink.now)
          (g.W.Sink.written c.loop-count.sink) (g.W.Sink.written c.write_chunk.new.sink)
          c.args.extent.now c.loop-count.extent c.write_chunk.new.extent c.in_ok-count.count
          inv.full c.in_ok-count.ensures.writes whole;
      read = c.in_ok-count.ensures.read ∙ inv.read;
      write = c.in_ok-count.ensures.write ∙ inv.write;
    }

pub returns-in_err-write_all-clause-writes : goal.returns-in_err-write_all-clause-writes
returns-in_err-write_all-clause-writes g c =
    let front =
    subst
    (AppendsFront (g.W.Sink.written c.write_chunk.new.sink)
    (g.W.Sink.written c.write_all.new.sink)) c.pack_chunk.ensures
    c.in_err-write_all.ensures.err in
    rw (error_is _ _ c.from_residual-in_err-write_all.ensures)
    (stops_at_end (g.R.Source.observed c.args.source.now) (g.R.Source.observed c.loop-count.source)
    (g.R.Source.observed c.write_chunk.new.source) (g.W.Sink.written c.args.sink.now)
    (g.W.Sink.written c.loop-count.sink) (g.W.Sink.written c.write_chunk.new.sink)
    (g.W.Sink.written c.write_all.new.sink) c.args.extent.now c.loop-count.extent
    c.write_chunk.new.extent c.in_ok-count.count _ c.loop-count.invariant.full
    c.in_ok-count.ensures.writes c.in_err-write_all.ensures.error front)

pub returns-clause-writes : goal.returns-clause-writes
returns-clause-writes g c =
    let less : c.in_ok-count.count < full_size = search rules in
    let word =
    subst
    (Appends (g.W.Sink.written c.write_chunk.new.sink) (g.W.Sink.written c.write_all.new.sink))
    c.pack_chunk.ensures c.in_ok-write_all.ensures.ok in
    whole_stream (g.R.Source.observed c.args.source.now) (g.R.Source.observed c.loop-count.source)
    (g.R.Source.observed c.write_chunk.new.source) (g.W.Sink.written c.args.sink.now)
    (g.W.Sink.written c.loop-count.sink) (g.W.Sink.written c.write_chunk.new.sink)
    (g.W.Sink.written c.write_all.new.sink) c.args.extent.now c.loop-count.extent
    c.write_chunk.new.extent _ c.in_ok-count.count c.loop-count.invariant.full
    c.in_ok-count.ensures.writes less word (one_word 0 c.write_chunk.new.extent _ refl refl)
