use Rattle.canon3.proofs.Common.{refl, ◌++◌, ◌∙◌}
use Rattle.canon3.proofs.Lemmas.Writing.EntryWriterLemmas.{hands, met_stops, no_more_yet, stops_at, writes_on}
use Rattle.canon3.proofs.entries.entry_writer.write_rest.Goals as goal

pub loop-entry-init : goal.loop-entry-init
loop-entry-init g c = record {
  going = c.requires.going;
  under_way = λ start handed old given wrote. no_more_yet given wrote;
  read = refl;
  write = refl;
  same_reference = refl;
}

pub loop-entry-preserved : goal.loop-entry-preserved
loop-entry-preserved g c =
    let invariant = c.loop-entry.invariant in
    let ends = rw (c.in-Ok-Some.is, c.in-Ok-Some.field-0-is) at c.visit.follows.holds-at-none in
    record {
      going = ends.errors.going;
      under_way =
          λ start handed old given wrote.
          let u = invariant.under_way start handed old given wrote in
          writes_on g.E.Visit.stands _ u (ends.answers _ _ u.has_given.stands)
          (c.progress-progress.ensures _ _ u.has_given.stands invariant.going) c.in-Ok.field-0
          c.in-Ok.ensures.writes;
      read = ends.device.read invariant.going ∙ invariant.read;
      write = c.in-Ok.ensures.count ∙ invariant.write;
      same_reference = ends.device.same_reference ∙ invariant.same_reference;
    }

pub returns-in-Err-write-clause-over : goal.returns-in-Err-write-clause-over
returns-in-Err-write-clause-over g c start handed old given wrote =
    let u = c.loop-entry.invariant.under_way start handed old given wrote in
    let ends = rw (c.in-Ok-Some.is, c.in-Ok-Some.field-0-is) at c.visit.follows.holds-at-none in
    stops_at g.E.Visit.stands _ u (ends.answers _ _ u.has_given.stands)
    (c.progress-progress.ensures _ _ u.has_given.stands c.loop-entry.invariant.going)
    c.requires.prefixes c.in-Err-write.error c.in-Err-write.ensures.error
    c.in-Err-write.ensures.writes

pub returns-in-Ok-None-clause-over : goal.returns-in-Ok-None-clause-over
returns-in-Ok-None-clause-over g c start handed old given wrote =
    let u = c.loop-entry.invariant.under_way start handed old given wrote in
    let ends = rw (c.in-Ok-None.is, c.in-Ok-None.field-0-is) at c.visit.follows.holds-at-none in
    let (all, has_given) = hands _ _ _ _ u.has_given (ends.answers _ _ u.has_given.stands) in
    record {
      more = u.more;
      has_given = has_given;
      all = all;
      wrote = rw (c.in-Ok-None.ensures.unmoved c.in-Ok-None.field-0-is) u.wrote;
    }

pub returns-in-Err-clause-over : goal.returns-in-Err-clause-over
returns-in-Err-clause-over g c start handed old given wrote =
    let u = c.loop-entry.invariant.under_way start handed old given wrote in
    let ends = rw c.in-Err.is at c.visit.follows.holds-at-none in
    let (all, gave, met) = hands _ _ _ _ u.has_given (ends.answers _ _ u.has_given.stands) in (
      all,
      gave,
      met_stops g.E.EntryWriter.form c.requires.prefixes c.in-Err.error _ old _ all
          (handed ++ u.more) met u.wrote.written,
    )
