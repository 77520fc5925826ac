use Rattle.canon3.proofs.Lemmas.Comparison.Places.{place_from_parting}
use Rattle.canon3.proofs.Lemmas.Order.Ends.{end_together}
use Rattle.canon3.proofs.Lemmas.Order.First.{first_in_order, fronts_decided, parts_where_forms_do}
use Rattle.canon3.proofs.laws.comparison_finds_the_parting.Goals as goal

pub returns-clause-fronts : goal.returns-clause-fronts
returns-clause-fronts c = fronts_decided

pub returns-clause-parts : goal.returns-clause-parts
returns-clause-parts c = parts_where_forms_do

pub returns-clause-places : goal.returns-clause-places
returns-clause-places c a b f g i e k s h l =
    place_from_parting a b i e k (first_in_order a f) (first_in_order b g) s h l

pub returns-clause-ends : goal.returns-clause-ends
returns-clause-ends c = end_together
