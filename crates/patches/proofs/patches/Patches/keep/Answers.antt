use Rattle.std.proofs.Common.{◌<◌, ◌+◌, ◌++◌, ◌^◌, ℕ, arith, subst, sym, length-append}
use Rattle.std.proofs.Math.Nat.{mod-eq_of_lt}
use Rattle.patches.specs.Patches.{Makes, Noted, noted_of}
use Rattle.patches.proofs.PatchesLemmas.{makes-kept}
use Rattle.patches.proofs.patches.Patches.keep.Goals as goal

pub returns-clause-makes : goal.returns-clause-makes
returns-clause-makes c body more form makes l few =
    let was = subst (λ (noted : Noted). Makes noted body form) (sym c.self.view_is) makes in
    let len = c.self.inside.last.keeps in
    let fits : len + c.args.count < 2 ^ 64 =
    omega (arith, was.covers, l, few, length-append body more) in
    subst (λ (n : ℕ). Makes (record (noted_of c.self.inside)
    { last = record c.self.inside.last { keeps = n } }) (body ++ more) (form ++ more))
    (sym (mod-eq_of_lt fits))
    (makes-kept (noted_of c.self.inside) c.args.count body more form was l)
