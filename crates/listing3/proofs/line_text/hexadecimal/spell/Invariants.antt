use Rattle.listing3.proofs.Common.{◌≡◌, take, drop, slice_index, map, length, lower_digits}
use Rattle.listing3.proofs.line_text.hexadecimal.spell.Given as goal

abbrev pub invariant-loop-i : goal.invariant-loop-i
invariant-loop-i l = record {
  done : take l.i l.digits ≡ map (slice_index lower_digits) (take l.i l.fn.digits);
  ahead : drop l.i l.digits ≡ drop l.i l.fn.digits;
  same : length l.digits ≡ length l.fn.digits;
}
