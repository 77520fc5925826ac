use Rattle.listing3.proofs.Common.{refl, [], ◌∷◌, Opaque, Var}
use Rattle.listing3.proofs.Lines.ItemsTexts.{adds_text, data_size, var_data}
use Rattle.listing3.proofs.line_writer.items_text.ItemsTextVisit.var.Goals as goal

pub returns-clause-ok : goal.returns-clause-ok
returns-clause-ok c =
    adds_text c.args.self.now c.var.new.self _ _
    (Opaque Var c.args.name.now c.args.bytes.now ∷ [])
    (data_size Var c.args.name.now c.args.bytes.now c.encoded_size-2.result
    c.encoded_size-2.ensures)
    c.in_ok-var.ensures.ok refl

pub returns-then-leaves_out-clause-ok : goal.returns-then-leaves_out-clause-ok
returns-then-leaves_out-clause-ok c =
    c.leave_out.ensures.ok (Opaque Var c.args.name.now c.args.bytes.now)
    (var_data c.args.name.now c.args.bytes.now c.encoded_size.result c.encoded_size.ensures)
