use Rattle.capture3.proofs.Lemmas.Reader.PairingLemmas.{come_at_start}
use Rattle.capture3.proofs.reader.pairing.Pairing.new.Goals as goal

pub returns-clause-machine : goal.returns-clause-machine
returns-clause-machine g c =
    come_at_start c.new.result _ c.new.ensures.unopened c.new.ensures.running c.new.ensures.machine
    c.requires.none
