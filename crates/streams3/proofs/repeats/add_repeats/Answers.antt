use Rattle.std.proofs.Common.{◌^◌, refl, subst, arith}
use Rattle.std.proofs.lemmas.Bool.{false≢true}
use Rattle.streams3.specs.declared.runs.Run.{Run}
use Rattle.streams3.specs.machinery.Log.{no_run, part_of}
use Rattle.streams3.specs.machinery.Repeating.{AddsRepeat}
use Rattle.streams3.proofs.RunsLemmas.{lie_sound}
use Rattle.streams3.proofs.RepeatsLemmas.{meets, repeating_last, repeating_more, repeating_none}
use Rattle.streams3.proofs.repeats.add_repeats.Goals as goal

pub loop-run-init : goal.loop-run-init
loop-run-init c =
    let e = c.count_before-i.ensures in
    repeating_none c.args.runs.now c.args.run c.args.pairs.now.items c.count_before-i.result
    e.within
    e.before e.beyond

pub part_of-requires-clause-sound : goal.part_of-requires-clause-sound
part_of-requires-clause-sound c =
    let t = c.loop-run-test.ensures.0 refl in
    lie_sound c.loop-run.i c.args.runs.now no_run 0 (2 ^ 63) c.requires.order t.0

pub part_of-requires-clause-some : goal.part_of-requires-clause-some
part_of-requires-clause-some c =
    let t = c.loop-run-test.ensures.0 refl in
    let m = meets c.args.runs.now c.args.run c.loop-run.i c.max-start.result c.min-stop.result
    c.requires.order c.requires.sound t.0 t.1 (c.loop-run.invariant.beyond t.0) c.max-start.ensures
    (omega (arith, c.min-stop.ensures, c.end_of.ensures)) in
    m.some

pub part_of-requires-in-loop-run-clause-some : goal.part_of-requires-in-loop-run-clause-some
part_of-requires-in-loop-run-clause-some c =
    let t = c.loop-run-test.ensures.0 refl in
    let m = meets c.args.runs.now c.args.run c.loop-run.i c.max-start.result c.min-stop.result
    c.requires.order c.requires.sound t.0 t.1 (c.loop-run.invariant.beyond t.0) c.max-start.ensures
    (omega (arith, c.min-stop.ensures, c.end_of.ensures)) in
    m.some

pub loop-run-preserved : goal.loop-run-preserved
loop-run-preserved c =
    let t = c.loop-run-test.ensures.0 refl in
    let runs = c.args.runs.now in
    let run = c.args.run in
    let i = c.loop-run.i in
    let start = c.max-start.result in
    let stop = c.min-stop.result in
    let m = meets runs run i start stop
    c.requires.order c.requires.sound t.0 t.1 (c.loop-run.invariant.beyond t.0) c.max-start.ensures
    (omega (arith, c.min-stop.ensures, c.end_of.ensures)) in
    let now = c.loop-run.pairs.items in
    let new = c.add_pair.new.pairs.items in
    repeating_more runs run c.args.pairs.now.items now new i start stop c.requires.order m
    c.loop-run.invariant
    (subst (λ (x : Run). AddsRepeat x (part_of run start stop) now new) c.part_of.ensures
    (subst (λ (x : Run). AddsRepeat c.part_of.result x now new) c.part_of-in-loop-run.ensures
    c.in_ok-add_pair.ensures))

pub returns : goal.returns
returns c =
    repeating_last c.args.runs.now c.args.run c.args.pairs.now.items c.loop-run.pairs.items
    c.loop-run.i
    c.requires.order c.loop-run.invariant (λ h. false≢true (c.loop-run-test.ensures.1 h))
