use Rattle.std.proofs.Common.{◌≡◌, ◌≤◌, ◌+◌, ◌++◌, length, take, arith, rules, ap, sym, ◌∙◌, ℕ, List}
use Rattle.std.proofs.lemmas.List.{append_assoc, length-take-le}
use Rattle.patches.specs.Patches.{kept_of, replacement}
use Rattle.patches.proofs.PatchesLemmas.{cut_after}
use Rattle.patches.proofs.part.put_part.Goals as goal

pub returns-clause-written : goal.returns-clause-written
returns-clause-written c =
    let eight : length c.args.part.now.bytes ≡ 8 = search rules in
    let room = c.put_bytes.new.room in
    let end = c.put_kept-end.result in
    let before = take end c.put_kept-end.new.room in
    let within : end ≤ length c.put_kept-end.new.room =
    omega (arith, c.put_kept-end.ensures.end, c.put_kept-end.ensures.len, c.requires) in
    let all =
    ap (λ (n : ℕ). take n room) (sym (c.put_bytes.ensures.end ∙ ap (λ (n : ℕ). end + n) eight))
    ∙ c.put_bytes.ensures.written in
    let cut =
    cut_after end c.args.part.now.len room before c.args.part.now.bytes all
    (length-take-le end c.put_kept-end.new.room within) eight in
    ap (λ (n : ℕ). take (end + n) room) c.min.ensures
    ∙ (cut
    ∙ (ap (λ (b : List ℕ). b ++ replacement c.args.part.now) c.put_kept-end.ensures.written
    ∙ append_assoc (take c.args.at c.args.room.now) (kept_of c.args.part.now c.args.body.now)
    (replacement c.args.part.now)))
