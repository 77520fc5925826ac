use Rattle.listing3.proofs.Common.{refl, on_err_weaker, on_ok_weaker, Rest}
use Rattle.listing3.proofs.Lines.LineLemmas.{adds_plain, keeps_text}
use Rattle.listing3.proofs.line_writer.LineWriterVisit.rest.Goals as goal

pub returns-clause-ok : goal.returns-clause-ok
returns-clause-ok g c =
    on_ok_weaker c.rest.result
    (adds_plain g.H.Visit.stands g.met.H.Gathering.skips c.args.self.now c.rest.new.self
    (Rest c.args.name.now c.args.bytes.now) refl)
    c.rest.ensures.ok

pub returns-clause-err : goal.returns-clause-err
returns-clause-err g c =
    on_err_weaker c.rest.result (keeps_text g.H.Visit.stands c.args.self.now c.rest.new.self)
    c.rest.ensures.err
