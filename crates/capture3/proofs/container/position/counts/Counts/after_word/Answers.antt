use Rattle.capture3.proofs.container.position.counts.Counts.after_word.Goals as goal

pub returns-in-Mark-clause-machine : goal.returns-in-Mark-clause-machine
returns-in-Mark-clause-machine c streams joining stored body =
    rw c.in-Mark.is (c.after_mark.ensures.machine streams joining (rw c.in-Mark.is at stored))

pub returns-in-Length-clause-machine : goal.returns-in-Length-clause-machine
returns-in-Length-clause-machine c streams joining stored body =
    rw c.in-Length.is (c.after_length.ensures.machine streams joining body)

pub returns-in-Side-clause-machine : goal.returns-in-Side-clause-machine
returns-in-Side-clause-machine c streams joining stored body =
    rw c.in-Side.is (c.after_side.ensures.machine streams joining)

pub returns-in-SideLength-clause-machine : goal.returns-in-SideLength-clause-machine
returns-in-SideLength-clause-machine c streams joining stored body =
    rw c.in-SideLength.is (c.after_side_length.ensures.machine streams joining)
