use Rattle.canon3.proofs.Common.{source_of}
use Rattle.canon3.proofs.comparison.Comparison.judge.Goals as goal

pub returns-clause-gave : goal.returns-clause-gave
returns-clause-gave g c =
    let start = g.A.Source.observed (source_of c.args.first.now) in
    let other_start = g.B.Source.observed (source_of c.args.second.now) in
    c.conclude.ensures.gave start other_start
    (c.in_ok-finding.ensures.found start other_start c.requires.begins)
