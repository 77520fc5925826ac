use Rattle.listing3.proofs.Common.{◌≡◌, true, take, flat_map, quoted_byte}
use Rattle.listing3.proofs.line_text.quotes.are_plain.Given as goal

abbrev pub invariant-loop-i : goal.invariant-loop-i
invariant-loop-i l = l.plain ≡ true → flat_map quoted_byte (take l.i l.bytes) ≡ take l.i l.bytes
