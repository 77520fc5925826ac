use Rattle.listing3.proofs.Common.{take, ◌++◌, ◌∙◌, ap, arith, rules, encode_lower, chunks_rest, take_all}
use Rattle.listing3.proofs.HalvesLemmas.{all_spelled, left_over, piece_spelled}
use Rattle.listing3.proofs.line_text.hexadecimal.put_hex.Goals as goal

pub loop-piece-preserved : goal.loop-piece-preserved
loop-piece-preserved c =
    let so_far = c.loop-piece.invariant in
    let steps = c.in-Some.ensures.steps in
    let put = c.put_piece-end.ensures in
    record {
      next = search rules;
      finite = tt;
      size = steps.0 ∙ so_far.size;
      text =
          piece_spelled (take c.loop-piece.end c.loop-piece.room)
          _ _ (chunks_rest c.loop-piece.piece-iterator) c.in-Some.piece.now
          (chunks_rest c.next.new.self) steps.1.0 put.puts.0 so_far.text;
      after = omega (arith, so_far.after, put.end);
      left =
          left_over c.loop-piece.end _ (chunks_rest c.loop-piece.piece-iterator) c.in-Some.piece.now
          (chunks_rest c.next.new.self) _ steps.1.0 put.end so_far.left;
      len = put.puts.1 ∙ so_far.len;
    }

pub returns-then-bytes-eq-HANDLE-clause-puts : goal.returns-then-bytes-eq-HANDLE-clause-puts
returns-then-bytes-eq-HANDLE-clause-puts c = (
  c.put_spelled.ensures.puts.0
      ∙ ap (λ l. take c.args.at c.args.room.now ++ encode_lower l) (c.block.ensures
      ∙ take_all 32 c.args.bytes.now (omega (arith, c.if-bytes-eq-HANDLE.true))),
  c.put_spelled.ensures.puts.1,
)

pub returns-clause-puts : goal.returns-clause-puts
returns-clause-puts c = (
  all_spelled (take c.loop-piece.end c.loop-piece.room)
      _ (chunks_rest c.loop-piece.piece-iterator) c.in-None.ensures.steps.1.0
      c.loop-piece.invariant.text,
  c.loop-piece.invariant.len,
)
