use Rattle.std.proofs.Common.{◌<◌, ◌+◌, ◌++◌, ◌^◌, ℕ, arith, replicate, subst, sym, length-append}
use Rattle.std.proofs.Math.Nat.{mod-eq_of_lt}
use Rattle.patches.specs.Patches.{Makes, Noted, noted_of}
use Rattle.patches.proofs.PatchesLemmas.{makes-zeros}
use Rattle.patches.proofs.patches.Patches.zero.Goals as goal

pub returns-clause-ok : goal.returns-clause-ok
returns-clause-ok c body gone form makes l few =
    let was = subst (λ (noted : Noted). Makes noted body form) (sym c.self.view_is) makes in
    let len = c.self.inside.last.keeps in
    let fits : len + c.args.count < 2 ^ 64 =
    omega (arith, was.covers, l, few, length-append body gone) in
    subst (λ (n : ℕ). Makes (record (noted_of c.self.inside)
    { last = record c.self.inside.last { keeps = n; zeros_at = len; zeros = c.args.count } })
    (body ++ gone)
    (form ++ replicate c.args.count 0)) (sym (mod-eq_of_lt fits))
    (makes-zeros (noted_of c.self.inside) c.args.count body gone form was
    (omega (arith, c.if-self-gt0.false)) l)
