use Rattle.masking3.proofs.Common.{refl, on_err_weaker, on_ok_weaker, WriteVerf}
use Rattle.masking3.proofs.Lemmas.Writing.WriterLemmas.{adds_plain, keeps_spelled}
use Rattle.masking3.proofs.masking_writer.MaskingWriterVisit.write_verf.Goals as goal

pub returns-clause-ok : goal.returns-clause-ok
returns-clause-ok g c =
    on_ok_weaker c.write_verf.result
    (adds_plain g.P.Plan.ways c.args.self.now c.write_verf.new.self
    (WriteVerf c.args.name.now c.args.bytes.now) tt (λ spot. refl) refl)
    c.write_verf.ensures.ok

pub returns-clause-err : goal.returns-clause-err
returns-clause-err g c =
    on_err_weaker c.write_verf.result
    (keeps_spelled g.P.Plan.ways c.args.self.now c.write_verf.new.self) c.write_verf.ensures.err
