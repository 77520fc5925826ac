use Rattle.std.proofs.Common.{◌≡◌, ◌+◌, ◌<◌, ◌≤◌, List, length, get_or, drop, arith, ap, refl, sym, ◌∙◌}
use Rattle.patches.specs.declared.part.Part.{Part}
use Rattle.patches.specs.Patches.{kept_of, patched_by, Noted}
use Rattle.patches.proofs.PatchesLemmas.{alike-step, patched-over}
use Rattle.patches.proofs.patches.Patches.are_alike.Goals as goal

parts_of : {a b : Noted} → a ≡ b → a.parts ≡ b.parts
parts_of e = ap (λ (n : Noted). n.parts) e

pub loop-i-preserved : goal.loop-i-preserved
loop-i-preserved c same =
    let parts = parts_of c.self.view_is in
    let others = parts_of c.other.view_is in
    let within : c.loop-i.i < length c.args.self.now.parts =
    omega
    (arith, c.loop-i-test.true, c.len-i-end.ensures, c.self.inside.parts.ok.0, ap length parts)
    in
    let other_within : c.loop-i.i < length c.args.other.now.parts =
    omega (
      arith,
      c.loop-i-test.true,
      c.len-i-end.ensures,
      c.if-len.false,
      c.len.ensures,
      c.len-2.ensures,
      c.other.inside.parts.ok.0,
      ap length others,
    ) in
    let p = c.index.result.now in
    let q = c.index-in-loop-i.result.now in
    let is : p ≡ get_or c.args.self.now.parts c.loop-i.i p =
    c.index.ensures ∙ ap (λ (ps : List Part). get_or ps c.loop-i.i p) parts in
    let other_is : q ≡ get_or c.args.other.now.parts c.loop-i.i q =
    c.index-in-loop-i.ensures ∙ ap (λ (ps : List Part). get_or ps c.loop-i.i q) others in
    let rest =
    ap (patched_by (drop (c.loop-i.i + 1) c.args.self.now.parts) c.args.self.now.last)
    (sym c.after-rest.ensures)
    ∙ (same
    ∙ ap (patched_by (drop (c.loop-i.i + 1) c.args.other.now.parts) c.args.other.now.last)
    c.after-other_rest.ensures) in
    c.loop-i.invariant
    (alike-step c.args.self.now.parts c.args.other.now.parts c.loop-i.i c.args.self.now.last
    c.args.other.now.last c.loop-i.rest.now c.loop-i.other_rest.now p q within is other_within
    other_is
    (c.if-not-is_alike.ensures.kept refl) (c.if-not-is_alike.ensures.replaced refl) rest)

pub returns : goal.returns
returns c is =
    let parts = parts_of c.self.view_is in
    let others = parts_of c.other.view_is in
    let over : length c.args.self.now.parts ≤ c.loop-i.i =
    omega
    (arith, c.loop-i-test.false, c.len-i-end.ensures, c.self.inside.parts.ok.0, ap length parts)
    in
    let other_over : length c.args.other.now.parts ≤ c.loop-i.i =
    omega (
      arith,
      c.loop-i-test.false,
      c.len-i-end.ensures,
      c.if-len.false,
      c.len.ensures,
      c.len-2.ensures,
      c.other.inside.parts.ok.0,
      ap length others,
    ) in
    c.loop-i.invariant
    (patched-over c.args.self.now.parts c.loop-i.i c.args.self.now.last c.loop-i.rest.now over
    ∙ (ap (λ (n : Noted). kept_of n.last c.loop-i.rest.now) (sym c.self.view_is)
    ∙ (c.is_kept_alike.ensures is
    ∙ (ap (λ (n : Noted). kept_of n.last c.loop-i.other_rest.now) c.other.view_is
    ∙ sym (patched-over c.args.other.now.parts c.loop-i.i c.args.other.now.last
    c.loop-i.other_rest.now other_over)))))
