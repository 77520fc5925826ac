use Rattle.listing3.proofs.Common.{ℕ, List, ◌++◌, take, drop, subst, rules, on_err_weaker, on_ok_weaker, take_rest, Appends, AppendsFront, encode_lower, on_err}
use Rattle.listing3.proofs.Lines.GapLemmas.{cut_after, cut_before, cut_within, filled_written}
use Rattle.listing3.proofs.line_writer.large_data.write_filled.Goals as goal

pub returns-in_err-write_both-clause-writes : goal.returns-in_err-write_both-clause-writes
returns-in_err-write_both-clause-writes g c =
    let a = g.W.Sink.written c.args.sink.now in
    let b = g.W.Sink.written c.write_both.new.sink in
    record {
      ok = search rules;
      err =
          on_err c.from_residual.result
          (cut_before a b b b c.args.head.now c.args.text.now
          (encode_lower (take c.args.gap.len (drop c.args.gap.skipped c.args.body.now)))
          c.args.gap.at c.min-at.result c.min-at.ensures
          (subst (λ (h : List ℕ). AppendsFront a b (h ++ take c.min-at.result c.args.text.now))
          c.bytes.ensures c.in_err-write_both.ensures.err));
    }

pub returns-in_err-write_digits-clause-writes : goal.returns-in_err-write_digits-clause-writes
returns-in_err-write_digits-clause-writes g c =
    let a = g.W.Sink.written c.args.sink.now in
    let b = g.W.Sink.written c.write_both.new.sink in
    let d = g.W.Sink.written c.write_digits.new.sink in
    record {
      ok = search rules;
      err =
          on_err c.from_residual-in_err-write_digits.result
          (cut_within a b d d c.args.head.now c.args.text.now
          (encode_lower (take c.args.gap.len (drop c.args.gap.skipped c.args.body.now)))
          c.args.gap.at c.min-at.result c.min-at.ensures
          (subst (λ (h : List ℕ). Appends a b (h ++ take c.min-at.result c.args.text.now))
          c.bytes.ensures c.in_ok-write_both.ensures.ok)
          (subst (λ (l : List ℕ). AppendsFront b d (encode_lower l)) c.part_of.ensures
          c.in_err-write_digits.ensures.writes.err));
    }

pub returns-clause-writes : goal.returns-clause-writes
returns-clause-writes g c =
    let a = g.W.Sink.written c.args.sink.now in
    let b = g.W.Sink.written c.write_both.new.sink in
    let d = g.W.Sink.written c.write_digits.new.sink in
    let e = g.W.Sink.written c.write_all.new.sink in
    let digits = encode_lower (take c.args.gap.len (drop c.args.gap.skipped c.args.body.now)) in
    let first =
    subst (λ (h : List ℕ). Appends a b (h ++ take c.min-at.result c.args.text.now))
    c.bytes.ensures c.in_ok-write_both.ensures.ok in
    let second =
    subst (λ (l : List ℕ). Appends b d (encode_lower l)) c.part_of.ensures
    c.in_ok-write_digits.ensures.writes.ok in
    let back = take_rest c.args.text.now c.min-at.result in
    record {
      ok =
          on_ok_weaker c.write_all.result
          (λ third.
          filled_written a b d e c.args.head.now c.args.text.now digits c.args.gap.at
          c.min-at.result c.min-at.ensures first second (subst (Appends d e) back third))
          c.write_all.ensures.ok;
      err =
          on_err_weaker c.write_all.result
          (λ third.
          cut_after a b d e c.args.head.now c.args.text.now digits c.args.gap.at
          c.min-at.result c.min-at.ensures first second (subst (AppendsFront d e) back third))
          c.write_all.ensures.err;
    }
