use Rattle.canon3.proofs.Common.{prefix_of_observed}
use Rattle.canon3.proofs.Lemmas.Comparison.ComparisonLemmas.{decides_all}
use Rattle.canon3.proofs.Lemmas.Progress.SummaryLemmas.{concluded}
use Rattle.canon3.proofs.laws.left_bytes_are_given.Goals as goal

pub returns-clause-check : goal.returns-clause-check
returns-clause-check c bytes old new result tells =
    concluded bytes old new result (λ given. prefix_of_observed old new given bytes tells)

pub returns-clause-same : goal.returns-clause-same
returns-clause-same c file other first second result tells other_tells =
    decides_all first second file other
    (λ given. prefix_of_observed first.0 first.1 given file tells)
    (λ given. prefix_of_observed second.0 second.1 given other other_tells) result
