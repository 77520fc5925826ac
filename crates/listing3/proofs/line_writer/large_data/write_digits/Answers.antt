use Rattle.listing3.proofs.Common.{ℕ, subst, chunks_rest, ◌∙◌, rules, on_err}
use Rattle.canon3.specs.WriteErrors.{CountsWriting}
use Rattle.listing3.proofs.Lines.GapLemmas.{all_taken, part_cut, part_taken}
use Rattle.listing3.proofs.line_writer.large_data.write_digits.Goals as goal

pub loop-part-preserved : goal.loop-part-preserved
loop-part-preserved g c =
    let so_far = c.loop-part.invariant in
    let steps = c.in-Some.ensures.steps in
    record {
      next = search rules;
      finite = tt;
      taken =
          part_taken (g.W.Sink.written c.args.sink.now) (g.W.Sink.written c.loop-part.sink)
          (g.W.Sink.written c.write_part.new.sink) _ (chunks_rest c.loop-part.part-iterator)
          c.in-Some.part.now (chunks_rest c.next.new.self) so_far.taken steps.1.0
          c.in_ok-write_part.ensures.writes.ok;
      count = c.in_ok-write_part.ensures.count ∙ so_far.count;
    }

pub returns-in_err-write_part-clause-writes : goal.returns-in_err-write_part-clause-writes
returns-in_err-write_part-clause-writes g c =
    record {
      ok = search rules;
      err =
          on_err c.from_residual.result
          (part_cut (g.W.Sink.written c.args.sink.now) (g.W.Sink.written c.loop-part.sink)
          (g.W.Sink.written c.write_part.new.sink) _ (chunks_rest c.loop-part.part-iterator)
          c.in-Some.part.now (chunks_rest c.next.new.self) c.loop-part.invariant.taken
          c.in-Some.ensures.steps.1.0 c.in_err-write_part.ensures.writes.err);
    }

pub returns-in_err-write_part-clause-count : goal.returns-in_err-write_part-clause-count
returns-in_err-write_part-clause-count g c =
    subst
    (λ (n : ℕ). CountsWriting n (g.W.Sink.failures c.write_part.new.sink) c.from_residual.result)
    c.loop-part.invariant.count (search rules)

pub returns-clause-writes : goal.returns-clause-writes
returns-clause-writes g c =
    record {
      ok =
          all_taken (g.W.Sink.written c.args.sink.now) (g.W.Sink.written c.loop-part.sink) _
          (chunks_rest c.loop-part.part-iterator) c.loop-part.invariant.taken
          c.in-None.ensures.steps.1.0;
      err = tt;
    }

pub returns-clause-count : goal.returns-clause-count
returns-clause-count g c = c.loop-part.invariant.count
