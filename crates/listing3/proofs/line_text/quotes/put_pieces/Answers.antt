use Rattle.listing3.proofs.Common.{◌≡◌, ℕ, List, ◌++◌, take, sym, ap, ◌∙◌, append_assoc, arith, rules, flat_map, chunks_rest, common_steps, flat_map-append, quoted_byte}
use Rattle.listing3.proofs.PutsBytesLemmas.{kept_below, kept_by}
use Rattle.listing3.proofs.line_text.quotes.put_pieces.Goals as goal

-- a piece was written, and the rest is left
piece_written : (now new whole all piece rest : List ℕ) → all ≡ piece ++ rest
    → new ≡ now ++ flat_map quoted_byte piece → now ++ flat_map quoted_byte all ≡ whole
    → new ++ flat_map quoted_byte rest ≡ whole
piece_written now new whole all piece rest parts wrote e =
    ap (λ (l : List ℕ). l ++ flat_map quoted_byte rest) wrote
    ∙ append_assoc now (flat_map quoted_byte piece) (flat_map quoted_byte rest)
    ∙ ap (λ (l : List ℕ). now ++ l) (sym (flat_map-append quoted_byte piece rest))
    ∙ ap (λ (l : List ℕ). now ++ flat_map quoted_byte l) (sym parts) ∙ e

pub loop-piece-preserved : goal.loop-piece-preserved
loop-piece-preserved c =
    let so_far = c.loop-piece.invariant in
    let steps = c.in-Some.ensures.steps in
    let room = c.in_ok-make_room-2.ensures in
    let put = c.put_piece-end.ensures in
    record {
      next = search rules;
      finite = tt;
      size = steps.0 ∙ so_far.size;
      text =
          piece_written (take c.loop-piece.end c.loop-piece.room.items)
          _ _ (chunks_rest c.loop-piece.piece-iterator) c.in-Some.piece.now
          (chunks_rest c.next.new.self) steps.1.0
          (grind (arith, common_steps, put.puts.0, room.kept)) so_far.text;
      kept =
          kept_below c.args.at c.loop-piece.end _ _ so_far.after
          (grind (
            arith,
            common_steps,
            kept_by _ _ c.loop-piece.end c.put_piece-end.result _ put.puts
                put.within.0 (grind (arith, common_steps)),
          ))
          ∙ (kept_below c.args.at c.loop-piece.end _ _ so_far.after room.kept ∙ so_far.kept);
      after = omega (arith, so_far.after, put.within.0);
      within = grind (arith, common_steps);
      len = grind (arith, common_steps);
    }

pub returns-in_err-make_room-2-clause-kept : goal.returns-in_err-make_room-2-clause-kept
returns-in_err-make_room-2-clause-kept c =
    kept_below c.args.at c.loop-piece.end _ _ c.loop-piece.invariant.after
    c.in_err-make_room-2.ensures.kept ∙ c.loop-piece.invariant.kept

pub returns-in_err-make_room-3-clause-kept : goal.returns-in_err-make_room-3-clause-kept
returns-in_err-make_room-3-clause-kept c =
    kept_below c.args.at c.loop-piece.end _ _ c.loop-piece.invariant.after
    c.in_err-make_room-3.ensures.kept ∙ c.loop-piece.invariant.kept

pub returns-clause-kept : goal.returns-clause-kept
returns-clause-kept c =
    kept_below c.args.at c.loop-piece.end _ _ c.loop-piece.invariant.after
    (grind (arith, common_steps))
    ∙ (kept_below c.args.at c.loop-piece.end _ _ c.loop-piece.invariant.after
    c.in_ok-make_room-3.ensures.kept ∙ c.loop-piece.invariant.kept)
