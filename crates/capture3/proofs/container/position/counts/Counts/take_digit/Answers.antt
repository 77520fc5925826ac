use Rattle.capture3.proofs.Lemmas.Container.PositionLemmas.{digit_one, digit_two}
use Rattle.capture3.proofs.container.position.counts.Counts.take_digit.Goals as goal

pub returns-in-49-clause-machine : goal.returns-in-49-clause-machine
returns-in-49-clause-machine c joining streams stored =
    rw (
      c.of_version.ensures.some.0,
      c.of_version.ensures.some.1,
      c.of_version.ensures.machine streams joining,
    ) (digit_one c.args.self streams joining
    c.args.rest.now c.requires.some c.in-49.is)

pub returns-in-50-clause-machine : goal.returns-in-50-clause-machine
returns-in-50-clause-machine c joining streams stored =
    rw (
      c.of_version-in-50.ensures.some.0,
      c.of_version-in-50.ensures.some.1,
      c.of_version-in-50.ensures.machine streams joining,
    ) (digit_two c.args.self streams
    joining c.args.rest.now c.requires.some c.in-50.is)
