use Rattle.capture3.proofs.Common.{sym, subst, List, ℕ, SpellsReply}
use Rattle.capture3.proofs.reader.entry.ReplyRef.keep.Goals as goal

pub invariant_of-result-clause-spells : goal.invariant_of-result-clause-spells
invariant_of-result-clause-spells c =
    subst (λ (body : List ℕ). ∥ SpellsReply c.args.self.now.id body ∥₁)
    (sym c.in_ok-body.ensures.items) c.args.self.now.spells
