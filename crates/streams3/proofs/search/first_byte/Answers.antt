use Rattle.std.proofs.Common.{◌≤◌, ◌<◌, ◌+◌, ◌-◌, ◌^◌, length, subst, arith}
use Rattle.std.proofs.lemmas.List.{take_all}
use Rattle.streams3.specs.Runs.{HasBytes, Lie}
use Rattle.streams3.specs.machinery.Log.{end_at, no_run, nth_run}
use Rattle.streams3.proofs.RunsLemmas.{gap_none, lie_ends, lie_sound, none_above, spot_at}
use Rattle.streams3.proofs.search.first_byte.Goals as goal

pub returns-then-i-runs : goal.returns-then-i-runs
returns-then-i-runs c = λ p le.
    let rs = c.args.runs.now in
    let all : Lie 0 c.args.from rs =
    subst (Lie 0 c.args.from) (take_all c.count_before-i.result rs c.if-i-runs.true)
    c.count_before-i.ensures.before in
    none_above rs p 0 c.args.from all le

pub returns : goal.returns
returns c =
    let rs = c.args.runs.now in
    let i = c.count_before-i.result in
    let lt : i < length rs = c.if-i-runs.false in
    let beyond : c.args.from < end_at rs i = c.count_before-i.ensures.beyond lt in
    let is = c.max.ensures in
    let high : end_at rs i ≤ 2 ^ 63 = lie_ends i rs no_run 0 (2 ^ 63) c.requires lt in
    let sound : HasBytes (nth_run rs i) = lie_sound i rs no_run 0 (2 ^ 63) c.requires lt in
    record {
      low = omega (arith, is);
      none = λ p le below.
          gap_none rs i no_run c.args.from (nth_run rs i).position 0 (2 ^ 63) p c.requires
          c.count_before-i.ensures.before (omega (arith, high)) (λ _. omega arith) le
          (omega (arith, is, le, below));
      frame = (
        (nth_run rs i).at + (c.max.result - (nth_run rs i).position),
        spot_at i rs no_run c.max.result 0 (2 ^ 63) c.requires lt (omega (arith, is))
            (omega (arith, is, beyond, sound.0)),
      );
    }
