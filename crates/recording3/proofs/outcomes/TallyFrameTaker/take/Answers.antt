use Rattle.recording3.specs.Places.{Passed}
use Rattle.recording3.proofs.Files.OutcomesLemmas.{outcome_of, taken}
use Rattle.recording3.proofs.outcomes.TallyFrameTaker.take.Goals as goal

pub returns : goal.returns
returns c =
    let p : Passed = record { head = c.args.head.now; octets = c.args.octets.now } in
    taken c.count.result c.args.self.now c.count.new.self p c.read_segment.result
    (outcome_of p c.read_segment.result c.read_segment.ensures.ok c.read_segment.ensures.err)
    c.count.ensures.ok c.count.ensures.err
