use Rattle.std.proofs.Common.{arith}
use Rattle.listing3.proofs.PutsBytesLemmas.{one_digit}
use Rattle.listing3.proofs.line_text.decimal.put_decimal.Goals as goal

pub returns-then-n-lt10-clause-puts : goal.returns-then-n-lt10-clause-puts
returns-then-n-lt10-clause-puts c =
    one_digit c.args.room.now c.args.at c.args.n (omega arith) (omega arith)
