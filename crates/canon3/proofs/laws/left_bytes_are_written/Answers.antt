use Rattle.canon3.proofs.Common.{prefix_of_observed}
use Rattle.canon3.specs.Summary.{AreMessageCounts, IsSummary}
use Rattle.canon3.proofs.Lemmas.Writing.EntryWriterLemmas.{all_written}
use Rattle.canon3.proofs.laws.left_bytes_are_written.Goals as goal

pub returns-clause-summary : goal.returns-clause-summary
returns-clause-summary c form bytes (before, observed) (old, new) result tells =
    all_written form IsSummary bytes before observed old new result
    (λ given. prefix_of_observed before observed given bytes tells)

pub returns-clause-counts : goal.returns-clause-counts
returns-clause-counts c form bytes (before, observed) (old, new) result tells =
    all_written form AreMessageCounts bytes before observed old new result
    (λ given. prefix_of_observed before observed given bytes tells)
