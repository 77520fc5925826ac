use Rattle.std.proofs.Common.{arith, ◌∙◌}
use Rattle.canon3.proofs.Lemmas.Writing.SinkWritesLemmas.{taken_more}
use Rattle.canon3.proofs.sink.whole_writes.write_all.Goals as goal

pub loop-rest-preserved : goal.loop-rest-preserved
loop-rest-preserved g c = record {
  taken =
      taken_more (g.W.Sink.written c.args.sink.now) (g.W.Sink.written c.loop-rest.sink)
      (g.W.Sink.written c.write_some.new.self) c.in-Ok.count _ c.loop-rest.invariant.taken
      c.in-Ok.ensures.bytes (omega arith);
  count = c.in-Ok.ensures.count ∙ c.loop-rest.invariant.count;
}
