use Rattle.listing3.proofs.Common.{refl, on_err_weaker, on_ok_weaker, WriteVerf}
use Rattle.listing3.proofs.Lines.LineLemmas.{adds_plain, keeps_text}
use Rattle.listing3.proofs.line_writer.LineWriterVisit.write_verf.Goals as goal

pub returns-clause-ok : goal.returns-clause-ok
returns-clause-ok g c =
    on_ok_weaker c.write_verf.result
    (adds_plain g.H.Visit.stands g.met.H.Gathering.skips c.args.self.now c.write_verf.new.self
    (WriteVerf c.args.name.now c.args.bytes.now) refl)
    c.write_verf.ensures.ok

pub returns-clause-err : goal.returns-clause-err
returns-clause-err g c =
    on_err_weaker c.write_verf.result
    (keeps_text g.H.Visit.stands c.args.self.now c.write_verf.new.self) c.write_verf.ensures.err
