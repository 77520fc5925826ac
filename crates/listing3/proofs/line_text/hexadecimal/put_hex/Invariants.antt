use Rattle.listing3.proofs.Common.{◌≡◌, ◌≤◌, ◌+◌, ◌*◌, ◌++◌, length, take, encode_lower, chunks_rest, chunks_size}
use Rattle.listing3.proofs.line_text.hexadecimal.put_hex.Given as goal

abbrev pub invariant-loop-piece : goal.invariant-loop-piece
invariant-loop-piece l = record {
  next : goal.iterator-loop-piece.can_next l.piece-iterator;
  finite : goal.iterator-loop-piece.is_finite l.piece-iterator;
  size : chunks_size l.piece-iterator ≡ 64;
  text : take l.end l.room ++ encode_lower (chunks_rest l.piece-iterator)
      ≡ take l.fn.at l.fn.room ++ encode_lower l.fn.bytes;
  after : l.fn.at ≤ l.end;
  left : l.end + 2 * length (chunks_rest l.piece-iterator) ≡ l.fn.at + 2 * length l.fn.bytes;
  len : length l.room ≡ length l.fn.room;
}
