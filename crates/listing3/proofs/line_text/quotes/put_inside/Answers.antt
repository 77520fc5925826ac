use Rattle.listing3.proofs.Common.{◌∙◌, arith, common_steps}
use Rattle.listing3.proofs.line_text.quotes.put_inside.Goals as goal

pub loop-byte-preserved : goal.loop-byte-preserved
loop-byte-preserved c =
    let so_far = c.loop-byte.invariant in
    let put = c.put_quoted_byte-end.ensures in
    record {
      text = grind (arith, common_steps, so_far.text, put.puts.0);
      after = omega (arith, so_far.after, put.within.0);
      within = omega (arith, so_far.within, put.within.1);
      len = put.puts.1 ∙ so_far.len;
    }
