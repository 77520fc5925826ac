use Rattle.std.proofs.Common.{◌≡◌, length, rules, sym, ◌∙◌}
use Rattle.patches.proofs.PatchesLemmas.{zeros-alike}
use Rattle.patches.proofs.part.is_alike_beside.Goals as goal
use Rattle.patches.proofs.part.is_alike_beside.Goals.{After-eq-then-eq}

size_of : (c : After-eq-then-eq) → length c.args.bytes.now ≡ length c.args.other.now
size_of c = search rules

front_of : (c : After-eq-then-eq) → c.front.result.now ≡ c.front-2.result.now
front_of c = search rules

pub returns-then-eq : goal.returns-then-eq
returns-then-eq c is =
    let back : c.behind.result.now ≡ c.behind-then-eq.result.now = search rules in
    zeros-alike c.args.at c.args.count c.args.bytes.now c.args.other.now (size_of c)
    (sym c.front.ensures ∙ (front_of c ∙ c.front-2.ensures))
    (sym c.behind.ensures ∙ (back ∙ c.behind-then-eq.ensures))
