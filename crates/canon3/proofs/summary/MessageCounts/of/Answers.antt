use Rattle.canon3.proofs.summary.MessageCounts.of.Goals as goal

pub returns : goal.returns
returns c bytes entries typed passed = record {
  entries = entries;
  typed = typed;
  connections = passed.place.connections_are;
  calls = passed.calls_are;
  replies = passed.replies_are;
}
