use Rattle.std.proofs.Common.{subst, sym}
use Rattle.patches.specs.Patches.{Makes, Noted, noted_of}
use Rattle.patches.proofs.PatchesLemmas.{makes-replaced}
use Rattle.patches.proofs.patches.Patches.add.Goals as goal

pub returns-clause-ok : goal.returns-clause-ok
returns-clause-ok c body gone form makes l =
    let was = subst (λ (noted : Noted). Makes noted body form) (sym c.self.view_is) makes in
    makes-replaced (noted_of c.self.inside) _ _ _ _ body gone form was
    c.in_ok-push.ensures.items c.reset.ensures l
