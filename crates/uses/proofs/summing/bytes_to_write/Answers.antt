use Rattle.std.proofs.Common.{[]}
use Rattle.capture3.specs.MessageVisit.{OpensMessage}
use Rattle.uses.proofs.summing.bytes_to_write.Goals as goal

pub returns : goal.returns
unfolding OpensMessage
returns c =
    let (items, is, adds) = c.in_ok-scan.ensures in
    (items, is, adds [] c.new-data.ensures)
