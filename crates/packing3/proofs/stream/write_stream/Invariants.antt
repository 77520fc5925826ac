use Rattle.packing3.proofs.Common.{◌≡◌, ◌-◌, length, max_bytes, full_size, GrowsLittle, so_far}
use Rattle.packing3.proofs.Chunks.{HasFull}
use Rattle.packing3.proofs.stream.write_stream.Given as goal

abbrev pub invariant-loop-count : goal.invariant-loop-count
invariant-loop-count g l = record {
  block : length l.block ≡ full_size;
  small : GrowsLittle 0 l.fn.extent l.extent;
  full : HasFull (g.R.Source.observed l.fn.source) (g.R.Source.observed l.source)
      (so_far (g.W.Sink.written l.fn.sink) l.fn.extent) (so_far (g.W.Sink.written l.sink) l.extent);
  read : g.R.Source.failures l.source ≡ g.R.Source.failures l.fn.source;
  write : g.W.Sink.failures l.sink ≡ g.W.Sink.failures l.fn.sink;
}

abbrev pub decreases-loop-count : goal.decreases-loop-count
decreases-loop-count g l = max_bytes - l.extent.streamed
