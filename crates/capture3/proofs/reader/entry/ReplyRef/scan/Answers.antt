use Rattle.capture3.proofs.Common.{◌≡◌, [], ◌∷◌, Bool, true, false, cond, Some, None, nat_eq, refl, ∥∥₁_elim, NumberedCall, procedure_in_call}
use mathlib.Core.HLevel.{⊥_prop}
use Rattle.capture3.proofs.Lemmas.Messages.SpelledLemmas.{asking, reply_never_stops}
use Rattle.capture3.proofs.reader.entry.ReplyRef.scan.Goals as goal

-- the procedure of a call that may be there
its_procedure : (b : Bool) (call : NumberedCall)
    → procedure_in_call (cond b (Some call) None) ≡ cond b (Some call.id) None
its_procedure true call = refl
its_procedure false call = refl

pub unreachable-requires : goal.unreachable-requires
unreachable-requires g c =
    let call = c.its_call.result.call in
    let calls = asking c.its_call.result.xid call.id ∷ [] in
    ∥∥₁_elim c.args.self.now.spells ⊥_prop
    (λ s.
    reply_never_stops c.args.self.now.id c.args.self.now.body.now c.its_call.result.xid call.id
    c.in-Err-Stop.field-0-0 c.its_call.ensures.id c.its_call.ensures.xid s
    (c.in-Err-Stop.ensures.err calls
    (λ xid small. its_procedure (nat_eq c.its_call.result.xid xid) call)
    c.in-Err-Stop.field-0-0 c.in-Err-Stop.field-0-is))
