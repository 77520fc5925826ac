use Rattle.packing3.proofs.Common.{rules, ap, sym, ◌≡◌, ◌∙◌, ◌≤◌, ◌+◌, ℕ, List, ◌++◌, length, take, gave_both, take-append-le, length-take-le}
use Rattle.std.proofs.Math.Seq.{take-append-add}
use Rattle.packing3.proofs.block.fill.Goals as goal

-- a front of what stands after the first bytes
front_of : (a n : ℕ) (xs ys rest : List ℕ) → a ≤ length xs → n ≤ length ys
    → take (a + n) (take a xs ++ (ys ++ rest)) ≡ take a xs ++ take n ys
front_of a n xs ys rest within few =
    ap (λ m. take (m + n) (take a xs ++ (ys ++ rest))) (sym (length-take-le a xs within))
    ∙ take-append-add (take a xs) (ys ++ rest) n
    ∙ ap (λ l. take a xs ++ l) (take-append-le n ys rest few)

pub loop-filled-preserved : goal.loop-filled-preserved
loop-filled-preserved g c =
    let inv = c.loop-filled.invariant in
    let got =
    gave_both (g.R.Source.observed c.args.source.now) (g.R.Source.observed c.loop-filled.source)
    (g.R.Source.observed c.read_some.new.self) (take c.loop-filled.filled c.loop-filled.block)
    (take c.in_ok-count.count c.read_some.new.buf) inv.bytes c.in_ok-count.ensures.bytes.0 in
    record {
      within = search rules;
      size = search rules;
      bytes =
          rw (front_of c.loop-filled.filled c.in_ok-count.count c.loop-filled.block
          c.read_some.new.buf _ inv.within c.in_ok-count.ensures.within) got;
      count = c.in_ok-count.ensures.count ∙ inv.count;
    }
