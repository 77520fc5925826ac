use Rattle.program3.proofs.Common.{◌≡◌, length, Keeps}
use Rattle.program3.proofs.input.retried.RetriedRead.read.Given as goal

abbrev pub invariant-loop : goal.invariant-loop
invariant-loop g l = (length l.buf ≡ length l.initial.buf)
    × Keeps (g.R.Read.remaining l.initial.self.reader) (g.R.Read.remaining l.self.reader)
