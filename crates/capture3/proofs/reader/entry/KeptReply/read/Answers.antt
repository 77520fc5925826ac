use Rattle.capture3.proofs.Common.{sym, subst, List, ℕ, SpellsReply}
use Rattle.capture3.proofs.reader.entry.KeptReply.read.Goals as goal

pub read_reply-requires-clause-spells : goal.read_reply-requires-clause-spells
read_reply-requires-clause-spells c =
    subst (λ (body : List ℕ). ∥ SpellsReply c.args.self.now.id body ∥₁) (sym c.deref.ensures.value)
    c.args.self.now.spells
