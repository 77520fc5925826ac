use Rattle.canon3.proofs.Common.{◌∙◌, ap₂, arith, [], ◌∷◌, ◌++◌, values_of, place_from}
use Rattle.canon3.proofs.Lemmas.Comparison.ComparisonLemmas.{agree_on, one_fewer, parts_here}
use Rattle.canon3.proofs.Lemmas.Progress.ProgressLemmas.{connections_within, records_within, passed_by}
use Rattle.canon3.proofs.Lemmas.Writing.EntryWriterLemmas.{lent_kind}
use Rattle.canon3.proofs.comparison.Comparison.compare.Goals as goal

pub returns-then-branch-clause-compares : goal.returns-then-branch-clause-compares
returns-then-branch-clause-compares g c a b e f next other_of second observed =
    let s = c.in-Ok.ensures a e next.is_lent next.first observed.first in
    let t = c.in-Ok-spelling_of_entry.ensures b f other_of second observed.second in
    let alike = rw c.if-branch.true at c.in_ok-are_alike.ensures.alike in
    record {
      agree = agree_on _ _ _ _ a b e f next.first second s t observed.agree alike;
      first =
          c.end_message.ensures.rests (values_of (a ++ e ∷ []))
          (c.in_ok-are_alike.ensures.holds (values_of (a ++ e ∷ [])) s.holds);
      second =
          c.end_message-then-branch.ensures.rests (values_of (b ++ f ∷ []))
          (c.in_ok-are_alike.ensures.other_holds (values_of (b ++ f ∷ [])) t.holds);
    }

pub returns-clause-compares : goal.returns-clause-compares
returns-clause-compares g c a b e f next other_of second observed =
    let few = one_fewer a e next.few in
    let unlike = rw c.if-branch.false at c.in_ok-are_alike.ensures.alike in
    parts_here _ _ _ _ a b e f next.first second
    (c.in-Ok.ensures a e next.is_lent next.first observed.first)
    (c.in-Ok-spelling_of_entry.ensures b f other_of second observed.second)
    observed.agree c.args.before c.place_after.result unlike next.passed
    (c.place_after.ensures
    (omega (arith, few, next.passed.place.connections_are, connections_within a))
    (omega (arith, few, next.passed.place.records_are, records_within 0 a))
    ∙ ap₂ (λ x y. place_from c.args.before x y)
    (passed_by _ e (lent_kind c.args.entry _ e c.kind.ensures next.is_lent.0)).side
    (passed_by _ f (lent_kind c.args.other _ f c.kind-2.ensures other_of.0)).side)
