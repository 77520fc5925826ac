use Rattle.line3.proofs.Common.{rules, arith, subst, ◌≡◌, ◌≤◌, ◌∷◌, ℕ, List, codes, length, map, string_bytes, length-map, IsLine}
use Rattle.line3.proofs.LineLemmas.{told_other}
use Rattle.line3.proofs.command.of_streams.Goals as goal

pub returns-then-eq-clause-asked : goal.returns-then-eq-clause-asked
returns-then-eq-clause-asked c = λ line said.
    let e : c.args.command.now ≡ codes "pack" = search rules in
    c.packing.ensures.asked line
    (subst
    (λ (command : List ℕ). IsLine line (command ∷ string_bytes c.args.output.now
    ∷ map string_bytes c.args.streams.now)) e said)

pub returns-then-eq-clause-refused : goal.returns-then-eq-clause-refused
returns-then-eq-clause-refused c = λ line said.
    let e : c.args.command.now ≡ codes "pack" = search rules in
    c.packing.ensures.refused line
    (subst
    (λ (command : List ℕ). IsLine line (command ∷ string_bytes c.args.output.now
    ∷ map string_bytes c.args.streams.now)) e said)

pub returns-else-eq-clause-refused : goal.returns-else-eq-clause-refused
returns-else-eq-clause-refused c = λ line said.
    let many : length (map string_bytes c.args.streams.now) ≡ length c.args.streams.now =
    length-map c.args.streams.now string_bytes in
    let low : 2 ≤ length c.args.streams.now = c.requires in
    told_other line c.args.command.now
    (string_bytes c.args.output.now ∷ map string_bytes c.args.streams.now) c.usage.result said
    c.usage.ensures (record {
      check = λ e n. omega (arith, n, many, low);
      show = λ e n. omega (arith, n, many, low);
      canon = λ e n. omega (arith, n, many, low);
      same = λ e n. omega (arith, n, many, low);
      pack = λ e. let not : c.args.command.now ≡ codes "pack" → ⊥ = search rules in absurd (not e);
    })
