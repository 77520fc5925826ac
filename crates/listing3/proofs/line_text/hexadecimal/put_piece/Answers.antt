use Rattle.listing3.proofs.Common.{take, ◌++◌, ◌∙◌, ap, arith, encode_lower, take_all}
use Rattle.listing3.proofs.line_text.hexadecimal.put_piece.Goals as goal

pub returns-then-bytes-eq-BLOCK-clause-puts : goal.returns-then-bytes-eq-BLOCK-clause-puts
returns-then-bytes-eq-BLOCK-clause-puts c = (
  c.put_block.ensures.puts.0
      ∙ ap (λ l. take c.args.at c.args.room.now ++ encode_lower l) (c.block.ensures
      ∙ take_all 64 c.args.bytes.now (omega (arith, c.if-bytes-eq-BLOCK.true))),
  c.put_block.ensures.puts.1,
)
