use Rattle.record_mark.proofs.Common.{◌≡◌, ◌++◌, take, sym, ap, ◌∙◌, arith, length-append, length-take, common_steps, to_be_bytes, w32, number}
use Rattle.record_mark.proofs.word_part.WordPart.take.Goals as goal

pub returns-then-rest-ge4-clause-word : goal.returns-then-rest-ge4-clause-word
unfolding number
returns-then-rest-ge4-clause-word c =
    let front = length-take c.args.self.count (to_be_bytes w32 c.args.self.word) in
    let four = length-take 4 c.args.rest.now in
    let both =
    length-append (take c.args.self.count (to_be_bytes w32 c.args.self.word))
    (take 4 c.args.rest.now) in
    let whole : take 4 c.args.rest.now
    ≡ take c.args.self.count (to_be_bytes w32 c.args.self.word) ++ take 4 c.args.rest.now =
    grind (arith, common_steps) in
    (omega arith, ap number (sym whole) ∙ sym c.read_u32.ensures)
