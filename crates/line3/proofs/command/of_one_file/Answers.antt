use Rattle.std.proofs.Common.{arith, ◌∷◌, []}
use Rattle.line3.proofs.LineLemmas.{told_other}
use Rattle.line3.proofs.command.of_one_file.Goals as goal

pub returns-in_default-clause-refused : goal.returns-in_default-clause-refused
returns-in_default-clause-refused c = λ line said.
    told_other line c.args.command.now (c.args.file.now ∷ []) c.usage.result said c.usage.ensures
    (record {
      check = λ e. absurd (c.in_default.not-check e);
      show = λ e. absurd (c.in_default.not-show e);
      canon = λ e n. omega (arith, n);
      same = λ e n. omega (arith, n);
      pack = λ e. omega arith;
    })
