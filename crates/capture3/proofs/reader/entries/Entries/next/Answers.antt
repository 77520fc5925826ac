use Rattle.capture3.proofs.Common.{None, refl}
use Rattle.std.proofs.Common.{arith}
use Rattle.capture3.proofs.Lemmas.Reader.LendingLemmas.{reads, some_read}
use Rattle.capture3.proofs.reader.entries.Entries.next.Goals as goal

pub returns-in-Ok-true : goal.returns-in-Ok-true
returns-in-Ok-true g c =
    let step = rw c.in-Ok-true.field-0-test at c.in-Ok-true.ensures in
    let read = c.read_last.ensures in (
      (
        refl,
        λ _. tt,
        reads g.R.Source.observed g.R.Source.failures c.args.self.now c.step.new.self _ _ _
            c.step.new.visitor c.read_last.result _ read.kind step.answers read.value step.leaves,
      ),
      record {
        ends = tt;
        left = λ some. omega (arith, step.leaves.fewer (some_read _ _ read.kind some));
        write = tt;
      },
    )

pub returns-in-Ok-false : goal.returns-in-Ok-false
returns-in-Ok-false g c =
    let step = rw c.in-Ok-false.field-0-test at c.in-Ok-false.ensures in (
      (
        refl,
        λ _. tt,
        reads g.R.Source.observed g.R.Source.failures c.args.self.now c.step.new.self _ _ _
            c.step.new.visitor None None refl step.answers (λ given handed entry s. tt) step.leaves,
      ),
      record { ends = tt; left = λ some. absurd (cc); write = tt },
    )
