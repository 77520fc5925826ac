use Rattle.listing3.proofs.Common.{◌-◌, length, arith, take_rest}
use Rattle.listing3.proofs.Plain.{plain_by_ends}
use Rattle.listing3.proofs.line_text.quotes.are_ends_plain.Goals as goal

pub returns-then-are_plain : goal.returns-then-are_plain
returns-then-are_plain c plain =
    let bytes = c.args.bytes.now in
    let last = length bytes - c.args.size in
    plain_by_ends c.args.size last bytes (omega (arith, c.requires.least))
    (omega (arith, c.requires.most))
    (c.are_plain.ensures c.if-are_plain.true)
    (rw (take_rest bytes last) at (c.are_plain-then-are_plain.ensures plain))
