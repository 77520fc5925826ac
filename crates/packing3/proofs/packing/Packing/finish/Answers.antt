use Rattle.packing3.proofs.Histories.{finishes}
use Rattle.packing3.proofs.packing.Packing.finish.Goals as goal

pub returns-clause-finishes : goal.returns-clause-finishes
returns-clause-finishes g c old pairs h =
    finishes g.W.Sink.written c.args.self.now old (g.W.Sink.written c.close-result.new.self.sink)
    pairs c.close-result.result c.args.self.now.few c.args.self.now.extent.within
    c.close-result.ensures.ok c.close-result.ensures.err c.close-result.ensures.error h
