use Rattle.std.proofs.Common.{◌^◌, ◌+◌, ◌≡◌, ◌≤◌, ◌<◌, ℕ, List, [], ◌∷◌, ◌++◌, None, refl, length, sym, ◌∙◌, subst, ap, arith, inl, inr}
use Rattle.std.proofs.lemmas.Bool.{false≢true}
use Rattle.streams3.specs.declared.runs.Run.{Run}
use Rattle.streams3.specs.Runs.{spot_of}
use Rattle.streams3.specs.machinery.Log.{end_at, no_run, nth_run}
use Rattle.streams3.proofs.RunsLemmas.{gap_none, lie_ends, lie_high, lie_sound}
use Rattle.streams3.proofs.MergingLemmas.{IsRest, Merging, is_rest, second_left, step_first, step_known, step_last, step_second}
use Rattle.streams3.proofs.merging.merged.Goals as goal
use Rattle.streams3.proofs.merging.merged.Goals.{then-i-first, else-i-first+then-j-second}

pub loop-i-preserved-then-is_next : goal.loop-i-preserved-then-is_next
loop-i-preserved-then-is_next c =
    let first = c.args.first.now in
    let second = c.args.second.now in
    let i = c.loop-i.i in
    let j = c.loop-i.j in
    let end = c.loop-i.end in
    let m = c.loop-i.invariant in
    let next = c.if-is_next.ensures.0 refl in
    let at : (nth_run first i).position ≤ c.max-start.result = next.1 in
    let small : end_at first i ≤ 2 ^ 63 =
    lie_ends i first no_run 0 (2 ^ 63) c.requires.first next.0 in
    let s = c.start_of.ensures.start in
    let none : (p : ℕ) → end ≤ p → p < (nth_run first i).position → spot_of second p ≡ None =
    λ p le lt.
    gap_none second j no_run end (nth_run first i).position 0 (2 ^ 63) p c.requires.second
    m.second_before (omega (arith, small))
    (λ h. omega (arith, at, c.max-start.ensures, s h, le, lt)) le lt in
    subst (λ (n : ℕ). Merging c.push.new.self.items first second (i + 1) j n)
    (sym c.end_of-end.ensures)
    (subst (λ (rs : List Run). Merging rs first second (i + 1) j (end_at first i))
    (sym c.in_ok-push.ensures.items)
    (step_first c.loop-i.runs.items first second i j end m c.requires.first next.0 none))

pub end_of-requires-clause-index : goal.end_of-requires-clause-index
end_of-requires-clause-index c =
    second_left c.args.first.now c.args.second.now c.loop-i.i c.loop-i.j c.max-start.result
    c.requires.first
    (elim c.if-i-first.branch [
      | then-i-first w ↦ inl w.if-i-first.true
      | else-i-first+then-j-second w ↦ inr w.if-j-second.true
    ])
    (λ h. false≢true (c.if-is_next.ensures.1 h))
    (λ h. omega (arith, c.start_of.ensures.none h, c.max-start.ensures))

pub loop-i-preserved-then-end_of-end : goal.loop-i-preserved-then-end_of-end
loop-i-preserved-then-end_of-end c =
    let lt : c.loop-i.j < length c.args.second.now =
    second_left c.args.first.now c.args.second.now c.loop-i.i c.loop-i.j c.max-start.result
    c.requires.first
    (elim c.if-i-first.branch [
      | then-i-first w ↦ inl w.if-i-first.true
      | else-i-first+then-j-second w ↦ inr w.if-j-second.true
    ])
    (λ h. false≢true (c.if-is_next.ensures.1 h))
    (λ h. omega (arith, c.start_of.ensures.none h, c.max-start.ensures)) in
    step_known c.loop-i.runs.items c.args.first.now c.args.second.now c.loop-i.i c.loop-i.j
    c.loop-i.end c.loop-i.invariant c.requires.second lt
    (omega (arith, c.if-end_of-end.true, c.end_of.ensures))

pub loop-i-smaller-then-end_of-end : goal.loop-i-smaller-then-end_of-end
loop-i-smaller-then-end_of-end c =
    let lt : c.loop-i.j < length c.args.second.now =
    second_left c.args.first.now c.args.second.now c.loop-i.i c.loop-i.j c.max-start.result
    c.requires.first
    (elim c.if-i-first.branch [
      | then-i-first w ↦ inl w.if-i-first.true
      | else-i-first+then-j-second w ↦ inr w.if-j-second.true
    ])
    (λ h. false≢true (c.if-is_next.ensures.1 h))
    (λ h. omega (arith, c.start_of.ensures.none h, c.max-start.ensures)) in
    omega (arith, lt)

pub part_of-requires-clause-start : goal.part_of-requires-clause-start
part_of-requires-clause-start c =
    let lt : c.loop-i.j < length c.args.second.now =
    second_left c.args.first.now c.args.second.now c.loop-i.i c.loop-i.j c.max-start.result
    c.requires.first
    (elim c.if-i-first.branch [
      | then-i-first w ↦ inl w.if-i-first.true
      | else-i-first+then-j-second w ↦ inr w.if-j-second.true
    ])
    (λ h. false≢true (c.if-is_next.ensures.1 h))
    (λ h. omega (arith, c.start_of.ensures.none h, c.max-start.ensures)) in
    let high : end_at c.args.second.now c.loop-i.j ≤ 2 ^ 63 =
    lie_ends c.loop-i.j c.args.second.now no_run 0 (2 ^ 63) c.requires.second lt in
    let rest : IsRest c.args.first.now c.args.second.now c.loop-i.i c.loop-i.j c.loop-i.end
    c.max-start.result c.start_of-stop.result =
    is_rest c.args.first.now c.args.second.now c.loop-i.i c.loop-i.j c.loop-i.end c.max-start.result
    c.start_of-stop.result c.requires.second lt
    (omega (arith, c.if-end_of-end.false, c.end_of.ensures))
    (omega (arith, c.max-start.ensures, c.start_of.ensures.found lt (omega (arith, high))))
    (λ h. false≢true (c.if-is_next.ensures.1 h))
    (omega (arith, c.start_of-stop.ensures.within, c.end_of-else-end_of-end.ensures))
    c.start_of-stop.ensures.start
    (λ h. c.start_of-stop.ensures.run (omega (arith, h, c.end_of-else-end_of-end.ensures))) in
    rest.at

pub part_of-requires-clause-sound : goal.part_of-requires-clause-sound
part_of-requires-clause-sound c =
    let lt : c.loop-i.j < length c.args.second.now =
    second_left c.args.first.now c.args.second.now c.loop-i.i c.loop-i.j c.max-start.result
    c.requires.first
    (elim c.if-i-first.branch [
      | then-i-first w ↦ inl w.if-i-first.true
      | else-i-first+then-j-second w ↦ inr w.if-j-second.true
    ])
    (λ h. false≢true (c.if-is_next.ensures.1 h))
    (λ h. omega (arith, c.start_of.ensures.none h, c.max-start.ensures)) in
    lie_sound c.loop-i.j c.args.second.now no_run 0 (2 ^ 63) c.requires.second lt

pub part_of-requires-clause-some : goal.part_of-requires-clause-some
part_of-requires-clause-some c =
    let lt : c.loop-i.j < length c.args.second.now =
    second_left c.args.first.now c.args.second.now c.loop-i.i c.loop-i.j c.max-start.result
    c.requires.first
    (elim c.if-i-first.branch [
      | then-i-first w ↦ inl w.if-i-first.true
      | else-i-first+then-j-second w ↦ inr w.if-j-second.true
    ])
    (λ h. false≢true (c.if-is_next.ensures.1 h))
    (λ h. omega (arith, c.start_of.ensures.none h, c.max-start.ensures)) in
    let high : end_at c.args.second.now c.loop-i.j ≤ 2 ^ 63 =
    lie_ends c.loop-i.j c.args.second.now no_run 0 (2 ^ 63) c.requires.second lt in
    let rest : IsRest c.args.first.now c.args.second.now c.loop-i.i c.loop-i.j c.loop-i.end
    c.max-start.result c.start_of-stop.result =
    is_rest c.args.first.now c.args.second.now c.loop-i.i c.loop-i.j c.loop-i.end c.max-start.result
    c.start_of-stop.result c.requires.second lt
    (omega (arith, c.if-end_of-end.false, c.end_of.ensures))
    (omega (arith, c.max-start.ensures, c.start_of.ensures.found lt (omega (arith, high))))
    (λ h. false≢true (c.if-is_next.ensures.1 h))
    (omega (arith, c.start_of-stop.ensures.within, c.end_of-else-end_of-end.ensures))
    c.start_of-stop.ensures.start
    (λ h. c.start_of-stop.ensures.run (omega (arith, h, c.end_of-else-end_of-end.ensures))) in
    rest.some

pub loop-i-smaller : goal.loop-i-smaller
loop-i-smaller c =
    let lt : c.loop-i.j < length c.args.second.now =
    second_left c.args.first.now c.args.second.now c.loop-i.i c.loop-i.j c.max-start.result
    c.requires.first
    (elim c.if-i-first.branch [
      | then-i-first w ↦ inl w.if-i-first.true
      | else-i-first+then-j-second w ↦ inr w.if-j-second.true
    ])
    (λ h. false≢true (c.if-is_next.ensures.1 h))
    (λ h. omega (arith, c.start_of.ensures.none h, c.max-start.ensures)) in
    let high : end_at c.args.second.now c.loop-i.j ≤ 2 ^ 63 =
    lie_ends c.loop-i.j c.args.second.now no_run 0 (2 ^ 63) c.requires.second lt in
    let rest : IsRest c.args.first.now c.args.second.now c.loop-i.i c.loop-i.j c.loop-i.end
    c.max-start.result c.start_of-stop.result =
    is_rest c.args.first.now c.args.second.now c.loop-i.i c.loop-i.j c.loop-i.end c.max-start.result
    c.start_of-stop.result c.requires.second lt
    (omega (arith, c.if-end_of-end.false, c.end_of.ensures))
    (omega (arith, c.max-start.ensures, c.start_of.ensures.found lt (omega (arith, high))))
    (λ h. false≢true (c.if-is_next.ensures.1 h))
    (omega (arith, c.start_of-stop.ensures.within, c.end_of-else-end_of-end.ensures))
    c.start_of-stop.ensures.start
    (λ h. c.start_of-stop.ensures.run (omega (arith, h, c.end_of-else-end_of-end.ensures))) in
    omega (arith, rest.from, rest.some, rest.within, high)

pub loop-i-preserved : goal.loop-i-preserved
loop-i-preserved c =
    let lt : c.loop-i.j < length c.args.second.now =
    second_left c.args.first.now c.args.second.now c.loop-i.i c.loop-i.j c.max-start.result
    c.requires.first
    (elim c.if-i-first.branch [
      | then-i-first w ↦ inl w.if-i-first.true
      | else-i-first+then-j-second w ↦ inr w.if-j-second.true
    ])
    (λ h. false≢true (c.if-is_next.ensures.1 h))
    (λ h. omega (arith, c.start_of.ensures.none h, c.max-start.ensures)) in
    let high : end_at c.args.second.now c.loop-i.j ≤ 2 ^ 63 =
    lie_ends c.loop-i.j c.args.second.now no_run 0 (2 ^ 63) c.requires.second lt in
    let rest : IsRest c.args.first.now c.args.second.now c.loop-i.i c.loop-i.j c.loop-i.end
    c.max-start.result c.start_of-stop.result =
    is_rest c.args.first.now c.args.second.now c.loop-i.i c.loop-i.j c.loop-i.end c.max-start.result
    c.start_of-stop.result c.requires.second lt
    (omega (arith, c.if-end_of-end.false, c.end_of.ensures))
    (omega (arith, c.max-start.ensures, c.start_of.ensures.found lt (omega (arith, high))))
    (λ h. false≢true (c.if-is_next.ensures.1 h))
    (omega (arith, c.start_of-stop.ensures.within, c.end_of-else-end_of-end.ensures))
    c.start_of-stop.ensures.start
    (λ h. c.start_of-stop.ensures.run (omega (arith, h, c.end_of-else-end_of-end.ensures))) in
    let first = c.args.first.now in
    let second = c.args.second.now in
    let i = c.loop-i.i in
    let j = c.loop-i.j in
    let start = c.max-start.result in
    let stop = c.start_of-stop.result in
    subst (λ (rs : List Run). Merging rs first second i j stop)
    (sym (c.in_ok-push-2.ensures.items
    ∙ ap (λ (r : Run). c.loop-i.runs.items ++ r ∷ []) c.part_of.ensures))
    (step_second c.loop-i.runs.items first second i j c.loop-i.end start stop c.loop-i.invariant
    c.requires.first c.requires.second rest)

pub returns-clause-order : goal.returns-clause-order
returns-clause-order c =
    let m = c.loop-i.invariant in
    lie_high c.loop-i.runs.items 0 c.loop-i.end (2 ^ 63) m.small m.order

pub returns-clause-same : goal.returns-clause-same
returns-clause-same c =
    let m = c.loop-i.invariant in
    step_last c.loop-i.runs.items c.args.first.now c.args.second.now c.loop-i.i c.loop-i.j
    c.loop-i.end m c.if-i-first.false c.if-j-second.false
