use Rattle.capture3.proofs.Common.{sym, subst, List, ℕ, SpellsCall}
use Rattle.capture3.proofs.reader.entry.KeptCall.read.Goals as goal

pub read_call-requires-clause-spells : goal.read_call-requires-clause-spells
read_call-requires-clause-spells c =
    subst (λ (body : List ℕ). ∥ SpellsCall c.args.self.now.id body ∥₁) (sym c.deref.ensures.value)
    c.args.self.now.spells
