use Rattle.listing3.proofs.Common.{arith, slice_index, ◌∙◌, lower_digits, length-set}
use Rattle.listing3.proofs.HalvesLemmas.{same_at, replaced, rest_kept}
use Rattle.listing3.proofs.line_text.hexadecimal.spell.Goals as goal

pub hex_digit-requires : goal.hex_digit-requires
hex_digit-requires c =
    let before = c.loop-i.invariant in
    let same =
    same_at c.loop-i.digits c.args.digits.now c.loop-i.i before.ahead (omega arith) before.same in
    omega (arith, same, c.requires c.loop-i.i)

pub loop-i-preserved : goal.loop-i-preserved
loop-i-preserved c =
    let before = c.loop-i.invariant in
    record {
      done =
          replaced (slice_index lower_digits) c.loop-i.digits _ c.loop-i.i _ (omega arith)
          before.same before.ahead c.hex_digit.ensures before.done;
      ahead = rest_kept c.loop-i.digits _ c.loop-i.i _ (omega arith) before.same before.ahead;
      same = length-set c.loop-i.digits c.loop-i.i _ ∙ before.same;
    }
