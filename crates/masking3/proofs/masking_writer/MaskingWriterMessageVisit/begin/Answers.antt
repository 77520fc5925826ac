use Rattle.masking3.proofs.Common.{on_ok_weaker}
use Rattle.masking3.proofs.Lemmas.Writing.WriterLemmas.{opens}
use Rattle.masking3.proofs.masking_writer.MaskingWriterMessageVisit.begin.Goals as goal

pub returns : goal.returns
returns g c =
    on_ok_weaker c.begin.result
    (opens g.P.Plan.ways c.args.self.now c.begin.new.self c.first_spot-self.result c.args.start
    c.first_spot-self.ensures) c.begin.ensures
