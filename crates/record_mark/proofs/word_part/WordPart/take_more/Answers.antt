use Rattle.std.proofs.Common.{rules, ◌≡◌, ◌+◌, ◌++◌, take, sym, ap, ◌∙◌, arith, length-append, length-take}
use Rattle.record_mark.proofs.Common.{common_steps, to_be_bytes, w32, number}
use Rattle.std.proofs.lemmas.Nat.{be_bytes_4}
use Rattle.record_mark.proofs.word_part.WordPart.take_more.Goals as goal

pub returns-clause-word : goal.returns-clause-word
unfolding number
returns-clause-word c =
    let front = length-take c.args.self.count (to_be_bytes w32 c.args.self.word) in
    let more = length-take c.min-more.result c.args.rest.now in
    let both =
    length-append (take c.args.self.count (to_be_bytes w32 c.args.self.word))
    (take c.min-more.result c.args.rest.now) in
    let whole : c.with_more-bytes.result
    ≡ take c.args.self.count (to_be_bytes w32 c.args.self.word)
    ++ take c.min-more.result c.args.rest.now = grind (arith, common_steps) in
    (omega arith, ap number (sym whole) ∙ sym c.read_u32.ensures)

pub returns-then-count-more-lt4-clause-word : goal.returns-then-count-more-lt4-clause-word
returns-then-count-more-lt4-clause-word c =
    let bytes = c.with_more-bytes.result in
    let front = length-take c.args.self.count (to_be_bytes w32 c.args.self.word) in
    let more = length-take c.min-more.result c.args.rest.now in
    let joined : take (c.args.self.count + c.min-more.result) bytes
    ≡ take c.args.self.count (to_be_bytes w32 c.args.self.word)
    ++ take c.min-more.result c.args.rest.now = grind (arith, common_steps) in
    let same : to_be_bytes w32 c.from_be_bytes.result ≡ bytes =
    be_bytes_4 bytes _ (search rules) (search rules) c.from_be_bytes.ensures in
    (ap (take (c.args.self.count + c.min-more.result)) same ∙ joined, omega arith)
