use Rattle.capture3.proofs.Common.{◌∙◌, ap, sym, arith, is_some}
use Rattle.capture3.proofs.container.in_place.InPlaceJoiner.body.Goals as goal

pub slice_bounds-result-count : goal.slice_bounds-result-count
slice_bounds-result-count c =
    let lies = ap (λ s. s.lies) (sym c.self.view_is) ∙ ap is_some c.in-Some.is in
    omega (arith, (c.requires.lies c.requires.whole lies).0)
