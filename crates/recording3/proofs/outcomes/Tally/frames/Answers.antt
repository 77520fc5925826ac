use Rattle.std.proofs.Common.{◌∙◌}
use Rattle.recording3.proofs.Files.OutcomesLemmas.{total_is}
use Rattle.recording3.proofs.outcomes.Tally.frames.Goals as goal

pub returns-clause-all : goal.returns-clause-all
returns-clause-all c passed h = c.sum.ensures ∙ total_is passed c.args.self.now h
