-- The bytes of a window.
use Rattle.std.proofs.Common.{◌≡◌, ℕ, ◌+◌, ◌-◌, ◌≤◌, ◌∙◌, List, ◌++◌, length, take, drop, sym, ap, subst, zero-add, arith}
use Rattle.std.proofs.lemmas.List.{drop-take, length-drop, take-append-le}
use Rattle.std.proofs.lemmas.List.Edits.{take-paste}
use Rattle.std.proofs.Math.Seq.{take-append-add}
use Rattle.std.specs.List.{copy_within}

-- what was moved to the front
pub moved : (xs : List ℕ) (at there : ℕ) → at ≤ there → there ≤ length xs
    → take (there - at) (copy_within xs at there 0) ≡ drop at (take there xs)
moved xs at there l m =
    let n = there - at in
    let s : at + n ≡ there = omega arith in
    let d = length-drop at xs in
    let P : ℕ → Type 0 = λ k. take k (copy_within xs at there 0) ≡ take n (drop at xs) in
    subst P (zero-add n) (take-paste xs 0 (drop at xs) n (omega arith) (omega arith))
    ∙ sym (rw s at (drop-take at n xs))

-- a front that some bytes were written behind
pub take_over : (a n : ℕ) (front ys post : List ℕ) → length front ≡ a → n ≤ length ys
    → take (a + n) (front ++ (ys ++ post)) ≡ front ++ take n ys
take_over a n front ys post e l =
    ap (λ k. take (k + n) (front ++ (ys ++ post))) (sym e) ∙ take-append-add front (ys ++ post) n
    ∙ ap (λ (z : List ℕ). front ++ z) (take-append-le n ys post l)
