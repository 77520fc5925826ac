use Rattle.capture3.proofs.Common.{◌∙◌, ap, subst, sym, List, ℕ, Option, Some, Kind, SpellsCall, SpellsReply}
use Rattle.capture3.specs.machinery.Pairing.{LiesLast}
use Rattle.capture3.proofs.Lemmas.Reader.Lending.{last_stands, stands_spelled, stands_whole}
use Rattle.capture3.proofs.reader.pairing.Pairing.lend.Goals as goal

pub body-requires-clause-lies : goal.body-requires-clause-lies
body-requires-clause-lies g c =
    let self = c.args.self.now in
    subst (λ (last : Option Kind). LiesLast last self.container.joiner c.args.piece.now)
    (c.requires.last ∙ ap Some c.in-Call.is) c.requires.lies

pub body-requires-clause-whole : goal.body-requires-clause-whole
body-requires-clause-whole g c =
    stands_whole _ (last_stands _ _ _ _ c.args.self.now.spells c.requires.last c.in-Call.is)

pub invariant_of-result-clause-spells : goal.invariant_of-result-clause-spells
invariant_of-result-clause-spells g c =
    subst (λ (body : List ℕ). ∥ SpellsCall c.in-Call.id body ∥₁) (sym c.body.ensures.body)
    (stands_spelled _ (last_stands _ _ _ _ c.args.self.now.spells c.requires.last c.in-Call.is))

pub body-requires-in-Reply-clause-lies : goal.body-requires-in-Reply-clause-lies
body-requires-in-Reply-clause-lies g c =
    let self = c.args.self.now in
    subst (λ (last : Option Kind). LiesLast last self.container.joiner c.args.piece.now)
    (c.requires.last ∙ ap Some c.in-Reply.is) c.requires.lies

pub body-requires-in-Reply-clause-whole : goal.body-requires-in-Reply-clause-whole
body-requires-in-Reply-clause-whole g c =
    stands_whole _ (last_stands _ _ _ _ c.args.self.now.spells c.requires.last c.in-Reply.is)

pub invariant_of-result-in-Reply-clause-spells : goal.invariant_of-result-in-Reply-clause-spells
invariant_of-result-in-Reply-clause-spells g c =
    subst (λ (body : List ℕ). ∥ SpellsReply c.in-Reply.id body ∥₁)
    (sym c.body-in-Reply.ensures.body)
    (stands_spelled _ (last_stands _ _ _ _ c.args.self.now.spells c.requires.last c.in-Reply.is))
