use Rattle.listing3.proofs.Common.{◌≡◌, ◌≤◌, ◌++◌, length, take, drop, shown_items, vec_len, run_items, run_size}
use Rattle.listing3.proofs.line_text.run.put_each.Given as goal

abbrev pub invariant-loop-field : goal.invariant-loop-field
invariant-loop-field l = record {
  size : length l.rest ≡ run_size (drop l.field-index l.fields);
  text : take l.end l.room.items ++ shown_items (run_items (drop l.field-index l.fields) l.rest)
      ≡ take l.fn.at l.fn.room.items ++ shown_items (run_items l.fields l.bytes);
  within : l.end ≤ vec_len l.room;
  from : l.fn.at ≤ l.end;
  kept : take l.fn.at l.room.items ≡ take l.fn.at l.fn.room.items;
  len : vec_len l.fn.room ≤ vec_len l.room;
}
