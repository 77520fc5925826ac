use Rattle.listing3.proofs.Common.{◌≡◌, ℕ, List, ◌++◌, length, take, ap, sym, ◌∙◌, flat_map, quoted_byte, take-length}
use Rattle.listing3.proofs.line_text.quotes.put_piece.Goals as goal

-- a piece of plain bytes was written
plain_piece : (now start bytes piece : List ℕ) → length bytes ≡ 8 → piece ≡ take 8 bytes
    → flat_map quoted_byte bytes ≡ bytes → now ≡ start ++ piece
    → now ≡ start ++ flat_map quoted_byte bytes
plain_piece now start bytes piece long is plain put =
    put
    ∙ ap (λ (l : List ℕ). start ++ l)
    (is ∙ ap (λ (n : ℕ). take n bytes) (sym long) ∙ take-length bytes ∙ sym plain)

pub returns-then-are_plain-clause-puts : goal.returns-then-are_plain-clause-puts
returns-then-are_plain-clause-puts c = (
  plain_piece (take c.put_bytes.result c.put_bytes.new.room) (take c.args.at c.args.room.now)
      c.args.bytes.now c.block.result c.if-bytes-eq-PIECE.true c.block.ensures
      (c.are_plain.ensures c.if-are_plain.true) c.put_bytes.ensures.written,
  c.put_bytes.ensures.len,
)
