use Rattle.canon3.proofs.Common.{[], ◌∷◌, ◌++◌}
use Rattle.canon3.proofs.Lemmas.Comparison.ComparisonLemmas.{ended_decides, first_of, first_stops, parted_decides}
use Rattle.canon3.proofs.comparison.conclude.Goals as goal

pub returns-in-Ended-clause-gave : goal.returns-in-Ended-clause-gave
returns-in-Ended-clause-gave g c start other_start found =
    let h = rw c.in-Ended.is at found in
    ended_decides _ _ _ _ h c.read_second.result (c.in-Ok.ensures.out start h.a h.first_given)
    (c.read_second.ensures.out other_start h.b h.second_given)

pub returns-in-Parted-clause-gave : goal.returns-in-Parted-clause-gave
returns-in-Parted-clause-gave g c start other_start found =
    let h = rw c.in-Parted.is at found in
    parted_decides _ _ _ _ c.in-Parted.place h c.read_second-in-Parted.result
    (c.in-Ok.ensures.out start (h.a ++ h.e ∷ []) h.first_given)
    (c.read_second-in-Parted.ensures.out other_start (h.b ++ h.f ∷ []) h.second_given)

pub returns-in-Refused-clause-gave : goal.returns-in-Refused-clause-gave
returns-in-Refused-clause-gave g c start other_start found =
    let h = rw c.in-Refused.is at found in
    let (more, all) = c.in-Ok.ensures.out start h.0.0 h.0.1 in
    ((h.0.0 ++ more, all), h.1)

pub returns-in-Err-clause-gave : goal.returns-in-Err-clause-gave
returns-in-Err-clause-gave g c start other_start found =
    let (a, given) = first_of _ _ c.args.finding found in
    first_stops _ _ c.in-Err.error (c.in-Err.ensures.out start a given)
