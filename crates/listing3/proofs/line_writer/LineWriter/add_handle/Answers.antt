use Rattle.listing3.proofs.Common.{[], ◌∷◌, ◌∙◌, ap, length, refl, Handle, Opaque, on_err}
use Rattle.listing3.proofs.Lines.ItemsTexts.{adds_text, data_size, keeps_still, same_text, text_appended, text_cut}
use Rattle.listing3.proofs.Lines.LineLemmas.{adds_both, kept_both, keeps_text, told_err, told_ok}
use Rattle.listing3.proofs.line_writer.LineWriter.add_handle.Goals as goal

pub returns-clause-ok : goal.returns-clause-ok
returns-clause-ok g c =
    let w = c.args.self.now in
    let name = c.args.name.now in
    let bytes = c.args.bytes.now in
    let gathered = c.handle-gathered in
    let told = c.in_ok-truncate_on_error in
    let item = Opaque Handle name bytes in
    let text =
    told_ok gathered.result _ told.field-0 told.ensures.result told.ensures.ok
    ∙ c.in_ok-append_hex.ensures.ok in
    adds_both g.H.Visit.stands w gathered.new.self _ name bytes
    (adds_text w.items c.truncate_on_error.new.self _ _ (item ∷ [])
    (data_size Handle name bytes c.encoded_size.result c.encoded_size.ensures)
    (text_appended w.items.text c.truncate_on_error.new.self item text) refl)
    (told_ok gathered.result _ told.field-0 told.ensures.result gathered.ensures.ok)

pub returns-in_err-truncate_on_error-clause-err : goal.returns-in_err-truncate_on_error-clause-err
returns-in_err-truncate_on_error-clause-err g c =
    let w = c.args.self.now in
    let gathered = c.handle-gathered in
    let told = c.in_err-truncate_on_error in
    let new = c.truncate_on_error.new.self in
    let cut =
    told_err gathered.result _ _ told.ensures.result told.ensures.err in
    on_err c.from_residual-in_err-truncate_on_error.result
    (kept_both g.H.Visit.stands w gathered.new.self _
    (told_err gathered.result _ _ told.ensures.result gathered.ensures.err)
    (keeps_still w.items new
    (same_text w.items.text new
    (text_cut w.items.text c.append_hex.new.self _ new _ cut (ap length c.bytes-before.ensures)
    c.in_ok-append_hex.ensures.ok))))

pub returns-in_err-append_hex-clause-err : goal.returns-in_err-append_hex-clause-err
returns-in_err-append_hex-clause-err g c =
    on_err c.from_residual.result
    (keeps_text g.H.Visit.stands c.args.self.now _
    (keeps_still c.args.self.now.items c.append_hex.new.self
    (same_text c.args.self.now.items.text c.append_hex.new.self
    c.in_err-append_hex.ensures.err)))
