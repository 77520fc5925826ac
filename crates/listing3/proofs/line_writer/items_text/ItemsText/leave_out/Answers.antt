use Rattle.listing3.proofs.Common.{length, ap, refl, on_err}
use Rattle.listing3.proofs.Lines.ItemsTexts.{adds_gap, keeps_still, same_text}
use Rattle.listing3.proofs.line_writer.items_text.ItemsText.leave_out.Goals as goal

pub returns-clause-ok : goal.returns-clause-ok
returns-clause-ok c item holds =
    adds_gap c.args.self.now c.append_name.new.self item c.args.name.now c.args.bytes.now
    c.args.before c.args.size _ _ _ holds c.requires c.in_ok-append_name.ensures.ok
    (ap length c.bytes.ensures) refl refl

pub returns-in_err-append_name-clause-err : goal.returns-in_err-append_name-clause-err
returns-in_err-append_name-clause-err c =
    on_err c.from_residual.result
    (keeps_still c.args.self.now c.append_name.new.self
    (same_text c.args.self.now.text c.append_name.new.self c.in_err-append_name.ensures.err))
