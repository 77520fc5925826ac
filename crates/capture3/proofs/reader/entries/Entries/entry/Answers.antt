use Rattle.capture3.proofs.Common.{[], ◌∷◌, arith, length-append, refl}
use Rattle.capture3.proofs.Lemmas.Connections.NumberingLemmas.{lent_number}
use Rattle.std.proofs.Common.{slice_range}
use Rattle.capture3.proofs.Lemmas.Reader.Lending.{lies_there}
use Rattle.capture3.proofs.reader.entries.Entries.entry.Goals as goal

pub returns-in-Some-clause-numbered : goal.returns-in-Some-clause-numbered
returns-in-Some-clause-numbered g c given handed entry s =
    let held = s.holds handed entry refl c.in-Some.kind c.in-Some.is in
    lent_number c.lend.result handed entry c.args.self.now.pairing.number
    (omega (arith, s.few, length-append handed (entry ∷ []))) (c.lend.ensures.lent entry held.0)
    c.lend.ensures.number held.1

pub returns-in-Some-clause-lent : goal.returns-in-Some-clause-lent
returns-in-Some-clause-lent g c given handed entry s =
    c.lend.ensures.lent entry (s.holds handed entry refl c.in-Some.kind c.in-Some.is).0

pub lend-requires-clause-lies : goal.lend-requires-clause-lies
lend-requires-clause-lies g c =
    let self = c.args.self.now in
    rw c.deref.ensures.value
    (lies_there self.pairing.last self.pairing.container.joiner
    (slice_range self.block.items self.before self.start) self.lies)
