use Rattle.std.proofs.Common.{arith}
use Rattle.listing3.proofs.Digits.{after_digits, decimal_eight}
use Rattle.listing3.proofs.line_text.decimal.put_long.Goals as goal

pub returns-clause-puts : goal.returns-clause-puts
returns-clause-puts c =
    after_digits _ _ _ _ _ _ _ _ _ c.put_eight.ensures.puts c.put_front-end.ensures.puts
    (decimal_eight c.args.n (omega arith) (omega arith))
