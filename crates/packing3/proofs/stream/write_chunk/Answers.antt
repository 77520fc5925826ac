use Rattle.packing3.proofs.Common.{arith, take, ◌≤◌, refl, subst, ◌++◌, length-take-le, error_is, front_of_first, front_of_second, word_bytes, Appends, AppendsFront, full_size}
use Rattle.packing3.proofs.Chunks.{chunk_cut, chunk_refused, chunk_some}
use Rattle.packing3.proofs.stream.write_chunk.Goals as goal

pub returns-then-count-extent-clause-writes : goal.returns-then-count-extent-clause-writes
returns-then-count-extent-clause-writes g c =
    let within : c.in-Ok.count ≤ full_size =
    omega (arith, c.in-Ok.ensures.within, c.fill.ensures.size, c.requires.block) in
    chunk_refused (g.R.Source.observed c.args.source.now) (g.R.Source.observed c.fill.new.source)
    (g.W.Sink.written c.args.sink.now) c.args.extent.now c.refusal.result
    (take c.in-Ok.count c.fill.new.block) c.in-Ok.count c.in-Ok.ensures.bytes
    (length-take-le c.in-Ok.count c.fill.new.block c.in-Ok.ensures.within) within
    c.args.extent.now.within (omega (arith, c.if-count-extent.true, c.args.extent.now.within))
    c.refusal.ensures

pub returns-in_err-write_all-clause-writes : goal.returns-in_err-write_all-clause-writes
returns-in_err-write_all-clause-writes g c =
    let chunk = take c.in-Ok.count c.fill.new.block in
    let front =
    subst (AppendsFront (g.W.Sink.written c.args.sink.now) (g.W.Sink.written c.write_all.new.sink))
    c.pack_chunk.ensures c.in_err-write_all.ensures.err in
    rw (error_is _ _ c.from_residual.ensures)
    (chunk_cut (g.R.Source.observed c.args.source.now) (g.R.Source.observed c.fill.new.source)
    (g.W.Sink.written c.args.sink.now) (g.W.Sink.written c.write_all.new.sink) c.args.extent.now
    _ chunk c.in-Ok.count c.in-Ok.ensures.bytes
    (length-take-le c.in-Ok.count c.fill.new.block c.in-Ok.ensures.within) (omega arith)
    (omega (arith, c.in-Ok.ensures.within, c.fill.ensures.size, c.requires.block))
    c.in_err-write_all.ensures.error
    (front_of_first (g.W.Sink.written c.args.sink.now) (g.W.Sink.written c.write_all.new.sink)
    (word_bytes c.in-Ok.count) chunk (word_bytes c.in-Ok.count ++ chunk) refl front))

pub returns-in_err-write_all-2-clause-writes : goal.returns-in_err-write_all-2-clause-writes
returns-in_err-write_all-2-clause-writes g c =
    let chunk = take c.in-Ok.count c.fill.new.block in
    let word =
    subst (Appends (g.W.Sink.written c.args.sink.now) (g.W.Sink.written c.write_all.new.sink))
    c.pack_chunk.ensures c.in_ok-write_all.ensures.ok in
    rw (error_is _ _ c.from_residual-in_err-write_all-2.ensures)
    (chunk_cut (g.R.Source.observed c.args.source.now) (g.R.Source.observed c.fill.new.source)
    (g.W.Sink.written c.args.sink.now) (g.W.Sink.written c.write_all-2.new.sink)
    c.args.extent.now _ chunk c.in-Ok.count c.in-Ok.ensures.bytes
    (length-take-le c.in-Ok.count c.fill.new.block c.in-Ok.ensures.within) (omega arith)
    (omega (arith, c.in-Ok.ensures.within, c.fill.ensures.size, c.requires.block))
    c.in_err-write_all-2.ensures.error
    (front_of_second (g.W.Sink.written c.args.sink.now) (g.W.Sink.written c.write_all.new.sink)
    (g.W.Sink.written c.write_all-2.new.sink) (word_bytes c.in-Ok.count) chunk
    (word_bytes c.in-Ok.count ++ chunk) refl word c.in_err-write_all-2.ensures.err))

pub returns-clause-writes : goal.returns-clause-writes
returns-clause-writes g c =
    let chunk = take c.in-Ok.count c.fill.new.block in
    let word =
    subst (Appends (g.W.Sink.written c.args.sink.now) (g.W.Sink.written c.write_all.new.sink))
    c.pack_chunk.ensures c.in_ok-write_all.ensures.ok in
    chunk_some (g.R.Source.observed c.args.source.now) (g.R.Source.observed c.fill.new.source)
    (g.W.Sink.written c.args.sink.now) (g.W.Sink.written c.write_all.new.sink)
    (g.W.Sink.written c.write_all-2.new.sink) c.args.extent.now _ chunk c.in-Ok.count
    c.in-Ok.ensures.bytes (length-take-le c.in-Ok.count c.fill.new.block c.in-Ok.ensures.within)
    (omega arith) (omega (arith, c.in-Ok.ensures.within, c.fill.ensures.size, c.requires.block))
    (λ less. c.in-Ok.ensures.end (omega (arith, less, c.fill.ensures.size, c.requires.block)))
    word c.in_ok-write_all-2.ensures.ok refl refl
