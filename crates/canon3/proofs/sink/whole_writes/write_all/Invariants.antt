use Rattle.canon3.proofs.Common.{◌≡◌, length}
use Rattle.canon3.proofs.Lemmas.Writing.SinkWritesLemmas.{TookUpTo}
use Rattle.canon3.proofs.sink.whole_writes.write_all.Given as goal

abbrev pub invariant-loop-rest : goal.invariant-loop-rest
invariant-loop-rest g l = record {
  taken : TookUpTo (g.W.Sink.written l.fn.sink) (g.W.Sink.written l.sink) l.bytes l.rest;
  count : g.W.Sink.failures l.sink ≡ g.W.Sink.failures l.fn.sink;
}

abbrev pub decreases-loop-rest : goal.decreases-loop-rest
decreases-loop-rest g l = length l.rest
