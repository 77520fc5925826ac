use Rattle.std.proofs.Common.{length}
use Rattle.streams3.proofs.merging.+ordered.Given as goal

abbrev pub decreases-ordered : goal.decreases-ordered
decreases-ordered l = length l.log.now
