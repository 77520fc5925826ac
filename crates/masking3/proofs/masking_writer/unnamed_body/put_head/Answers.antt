use Rattle.std.proofs.lemmas.List.{length-drop, length-take-le, take_all}
use Rattle.std.specs.Prelude.{take}
use Rattle.masking3.proofs.Common.{ℕ, List, [], ap, ap₂, arith, drop, length, refl, subst, sym, ◌++◌, ◌∙◌, ◌≡◌, ◌≤◌}
use Rattle.masking3.proofs.masking_writer.unnamed_body.put_head.Goals as goal

front_size : (body : List ℕ) → 40 ≤ length body → length (take 28 body) ≡ 28
front_size body h = length-take-le 28 body (omega (arith, h))

stamp_size : (body : List ℕ) → 40 ≤ length body → length (take 4 (drop 32 body)) ≡ 4
stamp_size body h = length-take-le 4 (drop 32 body) (omega (arith, h, length-drop 32 body))

-- a part is put after another
part_put : (end at : ℕ) (room before old bytes : List ℕ) → end ≡ at
    → take end room ≡ before ++ bytes → before ≡ old → take at room ≡ old ++ bytes
part_put end at room before old bytes is written was =
    subst (λ (n : ℕ). take n room ≡ old ++ bytes) is
    (written ∙ ap (λ (l : List ℕ). l ++ bytes) was)

pub slice_bounds-put_bytes-end : goal.slice_bounds-put_bytes-end
slice_bounds-put_bytes-end c = sym (front_size c.args.body.now c.requires.body)

pub put_bytes-requires : goal.put_bytes-requires
put_bytes-requires c =
    omega (arith, front_size c.args.body.now c.requires.body, c.requires.head)

pub returns : goal.returns
returns c =
    let front = front_size c.args.body.now c.requires.body in
    let stamp = stamp_size c.args.body.now c.requires.body in
    let size = ap length c.spelled_word.ensures in
    let empty = ap length c.spelled_word-2.ensures in
    let first = c.put_bytes.ensures in
    let second = c.put_bytes-2.ensures in
    let third = c.put_bytes-3.ensures in
    let last = c.put_bytes-4.ensures in
    let all : length c.put_bytes-4.new.room ≤ 40 =
    omega (arith, c.requires.head, first.len, second.len, third.len, last.len) in
    sym (take_all 40 c.put_bytes-4.new.room all)
    ∙ part_put _ 40 _ _ _ _ (omega (arith, last.end, empty)) last.written
    (part_put _ 36 _ _ _ _ (omega (arith, third.end, stamp)) third.written
    (part_put _ 32 _ _ _ _ (omega (arith, second.end, size)) second.written
    (part_put _ 28 _ _ [] _ (omega (arith, first.end, front)) first.written refl)))
    ∙ ap₂ (λ (a : List ℕ) (b : List ℕ). ((take 28 c.args.body.now ++ a)
    ++ take 4 (drop 32 c.args.body.now)) ++ b) c.spelled_word.ensures c.spelled_word-2.ensures
