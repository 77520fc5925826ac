use Rattle.line3.proofs.Common.{arith, subst, ◌∷◌, ℕ, List, [], IsLine}
use Rattle.line3.proofs.LineLemmas.{told_other}
use Rattle.line3.proofs.command.of_two_files.Goals as goal

pub returns-in-canon-clause-asked : goal.returns-in-canon-clause-asked
returns-in-canon-clause-asked c = λ line said.
    c.rewriting.ensures.asked line
    (subst (λ (command : List ℕ). IsLine line (command ∷ c.args.first.now ∷ c.args.second.now ∷ []))
    c.in-canon.is said)

pub returns-in-canon-clause-refused : goal.returns-in-canon-clause-refused
returns-in-canon-clause-refused c = λ line said.
    c.rewriting.ensures.refused line
    (subst (λ (command : List ℕ). IsLine line (command ∷ c.args.first.now ∷ c.args.second.now ∷ []))
    c.in-canon.is said)

pub returns-in_default-clause-refused : goal.returns-in_default-clause-refused
returns-in_default-clause-refused c = λ line said.
    told_other line c.args.command.now (c.args.first.now ∷ c.args.second.now ∷ []) c.usage.result
    said
    c.usage.ensures (record {
      check = λ e n. omega (arith, n);
      show = λ e n. omega (arith, n);
      canon = λ e. absurd (c.in_default.not-canon e);
      same = λ e. absurd (c.in_default.not-same e);
      pack = λ e. absurd (c.in_default.not-pack e);
    })
