use Rattle.canon3.proofs.Common.{source_of}
use Rattle.canon3.proofs.Lemmas.Comparison.ComparisonLemmas.{first_stops, gave_error, stepped, received_first}
use Rattle.canon3.proofs.Lemmas.Writing.EntryWriterLemmas.{comes_next, hands}
use Rattle.canon3.proofs.comparison.Comparison.step.Goals as goal

pub returns-in-Ok-Some-clause-steps : goal.returns-in-Ok-Some-clause-steps
returns-in-Ok-Some-clause-steps g c start other_start u =
    let ends = rw (c.in-Ok-Some.is, c.in-Ok-Some.field-0-is) at c.visit.follows.holds-at-none in
    let (e, (is, adds), first, given) =
    hands _ _ _ _ u.first_given (ends.answers u.first_given.given u.a u.first_given.stands) in
    let so_far =
    received_first c.args.self.now u.a u.b c.visit.new.visitor e adds u.compared in
    stepped _ _ c.compare_second_entry.new.self u.a u.b e given c.compare_second_entry.result
    (c.compare_second_entry.ensures.meets _ other_start u.a u.b e
    (comes_next u.a e _ is first given.stands.few
    (c.progress-before.ensures u.first_given.given u.a u.first_given.stands c.requires.going_first))
    so_far u.second_given)

pub returns-in-Ok-None-clause-steps : goal.returns-in-Ok-None-clause-steps
returns-in-Ok-None-clause-steps g c start other_start u =
    let ends = rw (c.in-Ok-None.is, c.in-Ok-None.field-0-is) at c.visit.follows.holds-at-none in
    let (all, given) =
    hands _ _ _ _ u.first_given (ends.answers u.first_given.given u.a u.first_given.stands) in
    record {
      a = u.a;
      b = u.b;
      first_given = given;
      second_given = u.second_given;
      agree = u.compared.agree;
      file = all.given;
      typed = all.typed;
    }

pub returns-in-Err-clause-steps : goal.returns-in-Err-clause-steps
returns-in-Err-clause-steps g c start other_start u =
    let ends = rw c.in-Err.is at c.visit.follows.holds-at-none in
    first_stops _ _ c.in-Err.error (gave_error
    (start, g.A.Source.observed (source_of c.visit.follows.lender-at-none)) u.a c.in-Err.error
    (hands _ _ _ _ u.first_given (ends.answers u.first_given.given u.a u.first_given.stands)))
