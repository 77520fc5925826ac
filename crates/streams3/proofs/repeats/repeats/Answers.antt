use Rattle.std.proofs.Common.{List, take, sym, subst, add-one}
use Rattle.std.proofs.Math.Seq.{take-suc}
use Rattle.std.proofs.lemmas.List.{take_all}
use Rattle.streams3.specs.declared.runs.Run.{Run}
use Rattle.streams3.specs.machinery.Log.{no_run, nth_run}
use Rattle.streams3.specs.machinery.Repeating.{AreAgain}
use Rattle.streams3.proofs.LogLemmas.{sound_at}
use Rattle.streams3.proofs.RepeatsLemmas.{again_more}
use Rattle.streams3.proofs.repeats.repeats.Goals as goal

pub add_repeats-requires-clause-sound : goal.add_repeats-requires-clause-sound
add_repeats-requires-clause-sound c =
    (sound_at c.loop-run.run-index c.args.payloads.now no_run c.requires.sound
    c.loop-run-test.true).0

pub add_repeats-requires-clause-small : goal.add_repeats-requires-clause-small
add_repeats-requires-clause-small c =
    (sound_at c.loop-run.run-index c.args.payloads.now no_run c.requires.sound
    c.loop-run-test.true).1

pub loop-run-preserved : goal.loop-run-preserved
loop-run-preserved c =
    let xs = c.args.payloads.now in
    let k = c.loop-run.run-index in
    let new = c.add_repeats.new.pairs.items in
    subst (λ (ys : List Run). AreAgain ys c.args.runs.now new)
    (sym (rw add-one (take-suc xs k no_run c.loop-run-test.true)))
    (again_more (take k xs) c.args.runs.now (nth_run xs k) c.loop-run.pairs.items new
    c.loop-run.invariant c.in_ok-add_repeats.ensures)

pub returns : goal.returns
returns c =
    let xs = c.args.payloads.now in
    subst (λ (ys : List Run). AreAgain ys c.args.runs.now c.loop-run.pairs.items)
    (take_all c.loop-run.run-index xs c.loop-run-test.false) c.loop-run.invariant
