use Rattle.listing3.proofs.Common.{◌≡◌, ◌≤◌, [], ◌∷◌, ◌++◌, take, flat_map, quoted_byte, vec_len, chunks_rest, chunks_size}
use Rattle.listing3.proofs.line_text.quotes.put_pieces.Given as goal

abbrev pub invariant-loop-piece : goal.invariant-loop-piece
invariant-loop-piece l = record {
  next : goal.iterator-loop-piece.can_next l.piece-iterator;
  finite : goal.iterator-loop-piece.is_finite l.piece-iterator;
  size : chunks_size l.piece-iterator ≡ 8;
  text : take l.end l.room.items ++ flat_map quoted_byte (chunks_rest l.piece-iterator)
      ≡ (take l.fn.at l.fn.room.items ++ 34 ∷ []) ++ flat_map quoted_byte l.fn.bytes;
  kept : take l.fn.at l.room.items ≡ take l.fn.at l.fn.room.items;
  after : l.fn.at ≤ l.end;
  within : l.end ≤ vec_len l.room;
  len : vec_len l.fn.room ≤ vec_len l.room;
}
