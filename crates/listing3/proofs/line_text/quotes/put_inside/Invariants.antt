use Rattle.listing3.proofs.Common.{◌≡◌, ◌+◌, ◌*◌, ◌≤◌, ◌++◌, length, take, flat_map, quoted_byte}
use Rattle.listing3.proofs.line_text.quotes.put_inside.Given as goal

abbrev pub invariant-loop-byte : goal.invariant-loop-byte
invariant-loop-byte l = record {
  text : take l.end l.room
      ≡ take l.fn.at l.fn.room ++ flat_map quoted_byte (take l.byte-index l.bytes);
  after : l.fn.at ≤ l.end;
  within : l.end ≤ l.fn.at + 4 * l.byte-index;
  len : length l.room ≡ length l.fn.room;
}
