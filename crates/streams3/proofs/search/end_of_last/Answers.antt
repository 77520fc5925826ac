use Rattle.std.proofs.Common.{◌≡◌, ◌<◌, ◌-◌, ◌^◌, suc, length, sym, subst, arith}
use Rattle.std.proofs.lemmas.List.{take_all}
use Rattle.streams3.specs.Runs.{HasBytes, Lie}
use Rattle.streams3.specs.machinery.Log.{end_at, no_run, nth_run}
use Rattle.streams3.proofs.RunsLemmas.{lie_sound, lie_upto, shown}
use Rattle.streams3.proofs.search.end_of_last.Goals as goal

pub returns-clause-before : goal.returns-clause-before
returns-clause-before c =
    let rs = c.args.runs.now in
    let i = length rs - 1 in
    let lt : i < length rs = omega (arith, c.if-count-eq0.false) in
    subst (λ n. Lie 0 n rs) (sym c.end_of.ensures)
    (subst (Lie 0 (end_at rs i)) (take_all (suc i) rs (omega (arith, lt)))
    (lie_upto i rs no_run 0 (2 ^ 63) c.requires lt))

pub returns-clause-last : goal.returns-clause-last
returns-clause-last c = λ _.
    let rs = c.args.runs.now in
    let i = length rs - 1 in
    let lt : i < length rs = omega (arith, c.if-count-eq0.false) in
    let sound : HasBytes (nth_run rs i) = lie_sound i rs no_run 0 (2 ^ 63) c.requires lt in
    let e : c.end_of.result ≡ end_at rs i = c.end_of.ensures in
    shown rs i no_run (c.end_of.result - 1) lt (omega (arith, e, sound.0))
    (omega (arith, e, sound.0))
