use Rattle.listing3.proofs.Telling.{told_alike, told_apart}
use Rattle.listing3.proofs.laws.listing_tells_the_entries.Goals as goal

pub returns-clause-tells : goal.returns-clause-tells
returns-clause-tells c file other a b typed typed_other same =
    told_apart file other a b typed typed_other same

pub returns-clause-silence : goal.returns-clause-silence
returns-clause-silence c a b alike = told_alike a b alike
