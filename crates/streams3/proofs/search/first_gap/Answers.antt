use Rattle.std.proofs.Common.{◌≡◌, ◌<◌, ◌+◌, ◌^◌, length, take, sym, subst, add-one, inl, inr, arith}
use Rattle.std.proofs.lemmas.Bool.{cases_lt}
use Rattle.streams3.specs.Runs.{HasBytes, Lie}
use Rattle.streams3.specs.machinery.Log.{end_at, no_run, nth_run}
use Rattle.streams3.proofs.RunsLemmas.{ends_later, gap_none, lie_high, lie_sound, lie_upto, shown}
use Rattle.streams3.proofs.search.first_gap.Goals as goal

pub end_of-begin-requires-clause-index : goal.end_of-begin-requires-clause-index
end_of-begin-requires-clause-index c =
    let r =
    c.start_of-end.ensures.run (omega (arith, c.if-end-begin.false, c.loop-begin-test.true)) in
    r.0

pub returns-then-end-begin : goal.returns-then-end-begin
returns-then-end-begin c =
    let rs = c.args.runs.now in
    let i = c.loop-begin.i in
    let v = c.loop-begin.invariant in
    let begin = c.loop-begin.begin in
    let end = c.start_of-end.result in
    let s = c.start_of-end.ensures in
    let all : Lie 0 (2 ^ 63 + end) rs =
    lie_high rs 0 (2 ^ 63) (2 ^ 63 + end) (omega arith) c.requires in
    record {
      low = v.least;
      some = c.if-end-begin.true;
      high = s.within;
      before = v.known;
      none = λ p low high.
          gap_none rs i no_run begin end 0 (2 ^ 63 + end) p all v.before (omega arith) s.start low
          high;
      after = λ lt.
          let r = s.run lt in
          let sound : HasBytes (nth_run rs i) = lie_sound i rs no_run 0 (2 ^ 63) c.requires r.0 in
          shown rs i no_run end r.0 (omega (arith, r.1)) (omega (arith, r.1, sound.0));
    }

pub loop-begin-preserved : goal.loop-begin-preserved
loop-begin-preserved c =
    let rs = c.args.runs.now in
    let i = c.loop-begin.i in
    let v = c.loop-begin.invariant in
    let s = c.start_of-end.ensures in
    let r = s.run (omega (arith, c.if-end-begin.false, c.loop-begin-test.true)) in
    let lt : i < length rs = r.0 in
    let e : c.end_of-begin.result ≡ end_at rs i = c.end_of-begin.ensures in
    let more : c.loop-begin.begin < end_at rs i = v.beyond lt in
    record {
      within = omega (arith, lt);
      least = omega (arith, v.least, more, e);
      before =
          subst (λ n. Lie 0 n (take (i + 1) rs)) (sym e)
          (rw add-one (lie_upto i rs no_run 0 (2 ^ 63) c.requires lt));
      beyond = λ k.
          subst (λ n. n < end_at rs (i + 1)) (sym e)
          (ends_later rs i c.requires k);
      known = λ p low high.
          elim (cases_lt p c.loop-begin.begin) [
            | inl k ↦ v.known p low k
            | inr k ↦
                shown rs i no_run p lt (omega (arith, k, c.if-end-begin.false, r.1))
                (omega (arith, high, e))
          ];
    }

pub returns : goal.returns
returns c =
    λ p low high. c.loop-begin.invariant.known p low (omega (arith, high, c.loop-begin-test.false))
