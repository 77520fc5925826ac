use Rattle.std.proofs.Common.{arith}
use Rattle.listing3.proofs.Digits.{after_digits, decimal_hundreds}
use Rattle.listing3.proofs.line_text.decimal.put_few.Goals as goal

pub returns-clause-puts : goal.returns-clause-puts
returns-clause-puts c =
    after_digits _ _ _ _ _ _ _ _ _ c.put_pair.ensures.puts c.put_two-end.ensures.puts
    (decimal_hundreds c.args.n c.hundreds-first.result c.hundreds-first.ensures (omega arith)
    (omega arith))
