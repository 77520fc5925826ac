use Rattle.std.proofs.Common.{arith}
use Rattle.listing3.proofs.Digits.{after_digits, decimal_eight, decimal_four}
use Rattle.listing3.proofs.line_text.decimal.put_word.Goals as goal

pub returns-then-n-lt100000000-clause-puts : goal.returns-then-n-lt100000000-clause-puts
returns-then-n-lt100000000-clause-puts c =
    after_digits _ _ _ _ _ _ _ _ _ c.put_four.ensures.puts c.put_few-end.ensures.puts
    (decimal_four c.args.n (omega arith) (omega arith))

pub returns-clause-puts : goal.returns-clause-puts
returns-clause-puts c =
    after_digits _ _ _ _ _ _ _ _ _ c.put_eight.ensures.puts c.put_two-end.ensures.puts
    (decimal_eight c.args.n (omega arith) (omega arith))
