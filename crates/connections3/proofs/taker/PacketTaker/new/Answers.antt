use Rattle.connections3.proofs.FramesLemmas.{nothing_taken}
use Rattle.connections3.proofs.taker.PacketTaker.new.Goals as goal

pub returns : goal.returns
returns c =
    nothing_taken (record { connections = c.new.result; tally = c.new-2.result })
    c.new.ensures.shows c.new-2.ensures
