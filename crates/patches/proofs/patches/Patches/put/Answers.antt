use Rattle.std.proofs.Common.{[], ◌≡◌, ◌+◌, ◌<◌, ◌++◌, ℕ, List, length, get_or, take, drop, arith, ap, ◌∙◌}
use Rattle.std.proofs.lemmas.List.{get_or_default}
use Rattle.patches.specs.declared.part.Part.{Part}
use Rattle.patches.specs.Patches.{patched_by, Noted}
use Rattle.patches.proofs.PatchesLemmas.{front-step, kept_below, room-step, written-step}
use Rattle.patches.proofs.patches.Patches.put.Goals as goal
use Rattle.patches.proofs.patches.Patches.put.Goals.{After-after-rest}

parts_of : (c : After-after-rest) → c.deref-part-items.result.now ≡ c.args.self.now.parts
parts_of c = c.deref-part-items.ensures.value ∙ ap (λ (n : Noted). n.parts) c.self.view_is

within : (c : After-after-rest) → c.loop-part.part-index < length c.args.self.now.parts
within c = omega (arith, c.loop-part-test.true, ap length (parts_of c))

-- the part of this turn
abbrev part_of : After-after-rest → Part
part_of c =
    get_or c.deref-part-items.result.now c.loop-part.part-index
    (record { keeps = 0; zeros_at = 0; zeros = 0; len = 0; skips = 0; bytes = [] })

is_part : (c : After-after-rest)
    → part_of c ≡ get_or c.args.self.now.parts c.loop-part.part-index (part_of c)
is_part c =
    get_or_default c.deref-part-items.result.now c.loop-part.part-index _ (part_of c)
    c.loop-part-test.true
    ∙ ap (λ (ps : List Part). get_or ps c.loop-part.part-index (part_of c)) (parts_of c)

pub loop-part-preserved : goal.loop-part-preserved
loop-part-preserved c = record {
  written =
      ap
      (λ (b : List ℕ).
      take c.put_part-end.result c.put_part-end.new.room
      ++ patched_by (drop (c.loop-part.part-index + 1) c.args.self.now.parts)
      c.args.self.now.last b) c.after-rest.ensures
      ∙ written-step c.args.self.now.parts c.loop-part.part-index c.args.self.now.last
      c.loop-part.rest.now (take c.loop-part.end c.loop-part.room) _ _ (part_of c) (within c)
      (is_part c) c.put_part-end.ensures.written c.loop-part.invariant.written;
  short =
      omega (
        arith,
        c.loop-part.invariant.short,
        c.put_part-end.ensures.within,
        c.put_part-end.ensures.len,
        front-step c.args.self.now.parts c.loop-part.part-index c.loop-part.rest.now (part_of c)
            (within c) (is_part c),
        ap length c.after-rest.ensures,
        within c,
      );
  most =
      omega (
        arith,
        c.loop-part.invariant.most,
        c.put_part-end.ensures.within,
        room-step c.loop-part.rest.now (part_of c),
        ap length c.after-rest.ensures,
        within c,
      );
  from = omega (arith, c.loop-part.invariant.from, c.put_part-end.ensures.from);
  kept =
      kept_below c.args.at c.loop-part.end _ _ c.loop-part.invariant.from
      c.put_part-end.ensures.kept ∙ c.loop-part.invariant.kept;
}
