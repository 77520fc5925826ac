use Rattle.std.proofs.Common.{◌∙◌}
use Rattle.canon3.proofs.Lemmas.Progress.SummaryLemmas.{few_distinct}
use Rattle.canon3.proofs.summary.Summary.of.Goals as goal

pub returns : goal.returns
returns c bytes entries typed passed handles = record {
  entries = entries;
  typed = typed;
  connections = passed.place.connections_are;
  calls = passed.calls_are;
  replies = passed.replies_are;
  handles = handles ∙ few_distinct bytes entries typed;
}
