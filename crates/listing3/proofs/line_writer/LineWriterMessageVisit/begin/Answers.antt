use Rattle.std.proofs.lemmas.Result.{on_ok_weaker}
use Rattle.xdr3.specs.Item.{called}
use Rattle.listing3.proofs.Lines.LineLemmas.{opens}
use Rattle.listing3.proofs.line_writer.LineWriterMessageVisit.begin.Goals as goal

pub returns : goal.returns
unfolding called
returns g c =
    on_ok_weaker c.word.result
    (opens g.H.Visit.stands g.met.H.Gathering.skips c.args.self.now c.word.new.self c.args.start
    c.forget.new.self c.forget.ensures)
    c.word.ensures.ok
