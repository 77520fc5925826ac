use Rattle.listing3.proofs.Common.{◌≡◌, encode_lower, chunks_rest, TookUpTo}
use Rattle.listing3.proofs.line_writer.large_data.write_digits.Given as goal

abbrev pub invariant-loop-part : goal.invariant-loop-part
invariant-loop-part g l = record {
  next : (goal.iterator-loop-part g).can_next l.part-iterator;
  finite : (goal.iterator-loop-part g).is_finite l.part-iterator;
  taken : TookUpTo (g.W.Sink.written l.fn.sink) (g.W.Sink.written l.sink)
      (encode_lower l.fn.bytes) (encode_lower (chunks_rest l.part-iterator));
  count : g.W.Sink.failures l.sink ≡ g.W.Sink.failures l.fn.sink;
}
