use Rattle.masking3.proofs.Common.{◌≡◌, ◌<◌, arith, ap, sym, ◌∙◌, slice_set, get_or, get_or-set_other, Keep, Times, classes, row}
use borrow.Author.Count.{below_more}
use Rattle.std.proofs.lemmas.List.{ext_get_or, get_or-map, get_or-set_same, length-set}
use Rattle.masking3.proofs.values.ways.Ways.usual.Goals as goal

pub loop-i-preserved : goal.loop-i-preserved
loop-i-preserved c =
    let before = c.loop-i.by_class in
    let i = c.loop-i.i in
    let way = c.usual.result in
    record {
      long = length-set before i way ∙ c.loop-i.invariant.long;
      each =
          below_more
          (λ k. get_or (slice_set before i way) k Keep ≡ (row (get_or classes k Times)).usual) i
          (λ k low.
          get_or-set_other before i k way Keep (omega (arith, low))
          ∙ c.loop-i.invariant.each k low)
          (get_or-set_same before i way Keep
          (omega (arith, c.loop-i.invariant.long, c.loop-i-test.true)) ∙ c.usual.ensures);
    }

pub returns : goal.returns
returns c =
    ap (λ l. record { by_class = l })
    (ext_get_or Keep _ _ c.loop-i.invariant.long
    (λ i low.
    let below : i < 13 = omega (arith, c.loop-i.invariant.long) in
    c.loop-i.invariant.each i (omega (arith, c.loop-i-test.false))
    ∙ sym (get_or-map (λ class. (row class).usual) classes i Times Keep below)))
