use Rattle.std.proofs.Common.{◌<◌, ◌+◌, ◌^◌, List, [], ◌∷◌, ◌++◌, refl, sym, ◌∙◌, subst, ap, inl, inr, arith}
use Rattle.std.proofs.lemmas.Bool.{cases_lt, false≢true}
use Rattle.streams3.specs.declared.runs.Run.{Run}
use Rattle.streams3.specs.Order.{AreBetween}
use Rattle.streams3.specs.Runs.{HasBytes}
use Rattle.streams3.specs.machinery.Log.{no_run, nth_run}
use Rattle.streams3.proofs.RunsLemmas.{lie_sound}
use Rattle.streams3.proofs.BetweenLemmas.{Between, between_all, between_more, between_none, between_nothing}
use Rattle.streams3.proofs.search.between.Goals as goal

pub returns-then-to-from : goal.returns-then-to-from
returns-then-to-from c =
    subst (λ (xs : List Run). AreBetween c.args.runs.now c.args.from c.args.to xs)
    (sym c.new-parts.ensures.items)
    (between_nothing c.args.runs.now c.args.from c.args.to c.if-to-from.true)

pub loop-start-init : goal.loop-start-init
loop-start-init c =
    let e = c.count_before-i.ensures in
    let i = c.count_before-i.result in
    subst (λ (xs : List Run). Between c.args.runs.now c.args.from c.args.to xs i)
    (sym c.new-parts.ensures.items)
    (between_none c.args.runs.now c.args.from c.args.to i e.within e.before e.beyond)

pub part_of-requires-clause-sound : goal.part_of-requires-clause-sound
part_of-requires-clause-sound c =
    let t = c.loop-start-test.ensures.0 refl in
    lie_sound c.loop-start.i c.args.runs.now no_run 0 (2 ^ 63) c.requires t.0

pub part_of-requires-clause-some : goal.part_of-requires-clause-some
part_of-requires-clause-some c =
    let t = c.loop-start-test.ensures.0 refl in
    let rs = c.args.runs.now in
    let i = c.loop-start.i in
    let sound : HasBytes (nth_run rs i) = lie_sound i rs no_run 0 (2 ^ 63) c.requires t.0 in
    omega (
      arith,
      c.if-to-from.false,
      t.1,
      sound.0,
      c.loop-start.invariant.beyond t.0,
      c.max-start.ensures,
      c.min-stop.ensures,
      c.end_of.ensures,
    )

pub loop-start-preserved : goal.loop-start-preserved
loop-start-preserved c =
    let t = c.loop-start-test.ensures.0 refl in
    let rs = c.args.runs.now in
    let i = c.loop-start.i in
    let from = c.args.from in
    let to = c.args.to in
    let start = c.max-start.result in
    let stop = c.min-stop.result in
    let parts = c.loop-start.parts.items in
    let sound : HasBytes (nth_run rs i) = lie_sound i rs no_run 0 (2 ^ 63) c.requires t.0 in
    let some : start < stop =
    omega (
      arith,
      c.if-to-from.false,
      t.1,
      sound.0,
      c.loop-start.invariant.beyond t.0,
      c.max-start.ensures,
      c.min-stop.ensures,
      c.end_of.ensures,
    ) in
    subst (λ (xs : List Run). Between rs from to xs (i + 1))
    (sym (c.in_ok-push.ensures.items ∙ ap (λ (r : Run). parts ++ r ∷ []) c.part_of.ensures))
    (between_more rs from to parts i start stop c.requires c.loop-start.invariant t.0
    c.max-start.ensures
    (omega (arith, c.min-stop.ensures, c.end_of.ensures)) some)

pub returns : goal.returns
returns c =
    let rs = c.args.runs.now in
    let i = c.loop-start.i in
    between_all rs c.args.from c.args.to c.loop-start.parts.items i c.requires
    c.loop-start.invariant
    (λ _ lt.
    elim (cases_lt (nth_run rs i).position c.args.to) [
      | inl h ↦ absurd (false≢true (c.loop-start-test.ensures.1 (lt, h)))
      | inr h ↦ h
    ])
