use Rattle.capture3.proofs.Common.{None, refl, sym, ap, ◌∙◌}
use Rattle.std.proofs.Common.{arith}
use Rattle.capture3.specs.machinery.Stepping.{kind_lent}
use Rattle.capture3.proofs.Lemmas.Reader.LendingLemmas.{lends, some_lent}
use Rattle.capture3.proofs.reader.entries.Entries.visit.Goals as goal

pub returns-in-Ok-true : goal.returns-in-Ok-true
returns-in-Ok-true g c =
    let step = rw c.in-Ok-true.field-0-test at c.in-Ok-true.ensures in
    let entry = c.entry.ensures in (
      (
        refl,
        λ _. tt,
        lends g.R.Source.observed g.R.Source.failures c.args.self.now c.step.new.self
            g.V.MessageVisit.rests g.V.Visit.stands c.args.visitor.now c.step.new.visitor
            c.entry.result _ entry.kind step.answers entry.lent entry.numbered step.leaves,
      ),
      record {
        ends = tt;
        unmoved = λ none. step.leaves.unmoved (sym entry.kind ∙ ap kind_lent none);
        left = λ some. omega (arith, step.leaves.fewer (some_lent _ _ entry.kind some));
        write = tt;
      },
    )

pub returns-in-Ok-false : goal.returns-in-Ok-false
returns-in-Ok-false g c =
    let step = rw c.in-Ok-false.field-0-test at c.in-Ok-false.ensures in (
      (
        refl,
        λ _. tt,
        lends g.R.Source.observed g.R.Source.failures c.args.self.now c.step.new.self
            g.V.MessageVisit.rests g.V.Visit.stands c.args.visitor.now c.step.new.visitor None
            None refl
            step.answers (λ given handed entry s. tt) (λ given handed entry s. tt) step.leaves,
      ),
      record {
        ends = tt;
        unmoved = λ none. step.leaves.unmoved refl;
        left = λ some. absurd (cc);
        write = tt;
      },
    )
