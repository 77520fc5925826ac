use Rattle.masking3.proofs.Common.{[], ◌∷◌, refl, subst, on_err_weaker, on_ok_weaker, Opaque, Text, Adds}
use Rattle.masking3.proofs.Lemmas.Writing.WriterLemmas.{Spells, adds_plain, keeps_spelled}
use Rattle.masking3.proofs.masking_writer.MaskingWriterVisit.text.Goals as goal

pub returns-clause-ok : goal.returns-clause-ok
returns-clause-ok g c =
    let name = c.args.name.now in
    on_ok_weaker c.text.result
    (λ write.
    adds_plain g.P.Plan.ways c.args.self.now c.text.new.self (Opaque Text name c.args.bytes.now)
    tt (λ spot. refl) refl
    (subst
    (λ bytes.
    Adds Spells c.args.self.now.writer c.text.new.self (Opaque Text name bytes ∷ []))
    c.masked_text.ensures.masked write)) c.text.ensures.ok

pub returns-clause-err : goal.returns-clause-err
returns-clause-err g c =
    on_err_weaker c.text.result (keeps_spelled g.P.Plan.ways c.args.self.now c.text.new.self)
    c.text.ensures.err
