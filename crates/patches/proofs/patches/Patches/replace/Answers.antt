use Rattle.std.proofs.Common.{List, ℕ, ◌≡◌, ◌++◌, ◌∙◌, ap, length, min, rules, subst, sym, take}
use Rattle.std.proofs.lemmas.List.{take_min}
use Rattle.std.proofs.lemmas.Result.{on_ok_weaker}
use Rattle.patches.specs.Patches.{Makes}
use Rattle.patches.proofs.patches.Patches.replace.Goals as goal

pub returns-clause-ok : goal.returns-clause-ok
returns-clause-ok c =
    let bytes = c.args.bytes.now in
    let eight : length bytes ≡ 8 = search rules in
    let all : take c.min.result bytes ≡ take c.args.len bytes =
    ap (λ (n : ℕ). take n bytes) (c.min.ensures ∙ ap (min c.args.len) (sym eight))
    ∙ take_min c.args.len bytes in
    on_ok_weaker c.add.result
    (λ adds body gone form makes l.
    subst (λ (put : List ℕ). Makes c.add.new.self (body ++ gone) (form ++ put)) all
    (adds body gone form makes l))
    c.add.ensures.ok
