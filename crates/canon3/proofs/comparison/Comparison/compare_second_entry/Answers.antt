use Rattle.canon3.proofs.Common.{source_of}
use Rattle.canon3.proofs.Lemmas.Comparison.ComparisonLemmas.{compared_meets, gave_error, not_ended, refused_meets, received_second, with_second}
use Rattle.canon3.proofs.Lemmas.Writing.EntryWriterLemmas.{hands}
use Rattle.canon3.specs.machinery.WritingSteps.{since}
use Rattle.canon3.proofs.comparison.Comparison.compare_second_entry.Goals as goal

pub returns-in_ok-compare-in-Ok-Some-clause-meets :
    goal.returns-in_ok-compare-in-Ok-Some-clause-meets
returns-in_ok-compare-in-Ok-Some-clause-meets g c source start a b e next so_far h =
    let ends = rw (c.in-Ok-Some.is, c.in-Ok-Some.field-0-is) at c.visit.follows.holds-at-none in
    let (f, (is, adds), second, given) = hands _ _ _ _ h (ends.answers h.given b h.stands) in
    let both =
    received_second c.args.self.now a b c.visit.new.visitor e f adds so_far in
    compared_meets source _ c.compare.new.self a b e f given
    c.in_ok-compare-in-Ok-Some.field-0 c.map.result c.map.ensures.cases
    (c.in_ok-compare-in-Ok-Some.ensures.compares
    a b e f next is second both)

pub returns-in-Ok-None-clause-meets : goal.returns-in-Ok-None-clause-meets
returns-in-Ok-None-clause-meets g c source start a b e next so_far h =
    let ends = rw (c.in-Ok-None.is, c.in-Ok-None.field-0-is) at c.visit.follows.holds-at-none in
    let (all, given) = hands _ _ _ _ h (ends.answers h.given b h.stands) in
    not_ended source (since g.B.Source.observed start c.visit.follows.lender-at-none)
    c.args.self.now a b e next.first so_far.agree all

pub returns-in-Err-clause-meets : goal.returns-in-Err-clause-meets
returns-in-Err-clause-meets g c source start a b e next so_far h =
    let ends = rw c.in-Err.is at c.visit.follows.holds-at-none in
    rw c.finding_at_error.ensures
    (refused_meets source _ (with_second c.args.self.now c.visit.new.visitor) a b e c.in-Err.error
    (gave_error (start, g.B.Source.observed (source_of c.visit.follows.lender-at-none)) b
    c.in-Err.error (hands _ _ _ _ h (ends.answers h.given b h.stands))))
