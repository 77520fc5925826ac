use Rattle.std.proofs.Common.{arith}
use Rattle.listing3.proofs.Digits.{pair_written}
use Rattle.listing3.proofs.line_text.decimal.put_pair.Goals as goal

pub returns-clause-puts : goal.returns-clause-puts
returns-clause-puts c =
    pair_written c.args.room.now c.args.at c.args.n (omega arith) (omega arith)
