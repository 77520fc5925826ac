use Rattle.xdr3.specs.Plain.{run_items}
use Rattle.masking3.proofs.Lemmas.Writing.RunLemmas.{fails_some}
use Rattle.masking3.proofs.masking_writer.MaskingWriterVisit.plain.Goals as goal

pub returns-in-Err-clause-err : goal.returns-in-Err-clause-err
returns-in-Err-clause-err g c =
    rw c.fail.ensures.result (fails_some g.P.Plan.ways c.args.self.now c.fail.new.self
    (run_items c.args.fields.now c.args.bytes.now) c.fail.ensures.failed)
