use Rattle.masking3.proofs.Common.{◌≢◌, arith, subst, position, row}
use Rattle.masking3.proofs.Lemmas.Classes.ClassLemmas.{class_back, place_within}
use Rattle.masking3.proofs.values.class.Class.by_name.Goals as goal

pub returns : goal.returns
returns c class =
    subst (λ k. c.args.name.now ≢ (row k).name) (class_back class)
    (c.loop-class.invariant (position class)
    (omega (arith, place_within class, c.loop-class-test.false)))
