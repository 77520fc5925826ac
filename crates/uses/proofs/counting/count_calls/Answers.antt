use Rattle.uses.proofs.Common.{ap, ℕ, refl, sym, arith, ◌∙◌, error_is}
use Rattle.uses.proofs.CountingLemmas.{none_counted, one_counted}
use Rattle.uses.proofs.Reading.{all_returned, none_is, one_more, refused}
use Rattle.uses.proofs.counting.count_calls.Goals as goal

pub returns-in_err-entry-clause-refused : goal.returns-in_err-entry-clause-refused
returns-in_err-entry-clause-refused g c bytes tells =
    let u = c.loop-entries.invariant.returned in
    let ends = rw c.in_err-entry.was at c.next.follows.holds-at-none in
    rw (error_is _ _ c.from_residual-in_err-entry.ensures)
    (refused _ _ _ _ _ _ u ℕ c.in_err-entry.field-0.0 bytes
    (ap (λ s. (g.R.Source.observed s).left) c.in_ok-entries.ensures.unread ∙ tells)
    (ends.answers u.given u.handed u.stands))

pub loop-entries-preserved-then-is_call : goal.loop-entries-preserved-then-is_call
loop-entries-preserved-then-is_call g c =
    let u = c.loop-entries.invariant.returned in
    let ends = rw (c.in_ok-entry.was, c.in-Some.is) at c.next.follows.holds-at-none in
    record {
      going = ends.errors.going;
      room = omega (arith, c.loop-entries.invariant.room, ends.fewer refl);
      returned =
          one_more _ _ _ _ _ _ u _ c.in-Some.entry
          (ends.answers u.given u.handed u.stands)
          (λ before one is count.
          one_counted c.args.procedure c.loop-entries.count before one count
          (sym c.if-is_call.true ∙ c.is_call.ensures one is));
    }

pub loop-entries-preserved : goal.loop-entries-preserved
loop-entries-preserved g c =
    let u = c.loop-entries.invariant.returned in
    let ends = rw (c.in_ok-entry.was, c.in-Some.is) at c.next.follows.holds-at-none in
    record {
      going = ends.errors.going;
      room = omega (arith, c.loop-entries.invariant.room, ends.fewer refl);
      returned =
          one_more _ _ _ _ _ _ u _ c.in-Some.entry
          (ends.answers u.given u.handed u.stands)
          (λ before one is count.
          none_counted c.args.procedure c.loop-entries.count before one count
          (sym c.if-is_call.false ∙ c.is_call.ensures one is));
    }

pub returns-clause-counted : goal.returns-clause-counted
returns-clause-counted g c bytes tells =
    let u = c.loop-entries.invariant.returned in
    let none = none_is _ c.in_default.not-Some in
    let ends = rw (c.in_ok-entry.was, none) at c.next.follows.holds-at-none in
    let (entries, typed, counted) =
    all_returned _ _ _ _ _ _ u bytes
    (ap (λ s. (g.R.Source.observed s).left) c.in_ok-entries.ensures.unread ∙ tells)
    (ends.answers u.given u.handed u.stands) in
    record { entries = entries; typed = typed; is = counted }
