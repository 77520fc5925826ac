use Rattle.std.proofs.Common.{List, ℕ, ◌++◌, subst}
use Rattle.std.proofs.lemmas.List.{take-replicate}
use Rattle.std.proofs.lemmas.Result.{on_ok_weaker}
use Rattle.patches.specs.Patches.{Makes}
use Rattle.patches.proofs.patches.Patches.replace_by_zeros.Goals as goal

pub returns-clause-ok : goal.returns-clause-ok
returns-clause-ok c =
    on_ok_weaker c.add.result
    (λ replaces body gone form makes l few.
    subst (λ (put : List ℕ). Makes c.add.new.self (body ++ gone) (form ++ put))
    (take-replicate c.args.count 8 0 c.requires) (replaces body gone form makes l))
    c.add.ensures.ok
