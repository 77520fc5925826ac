use Rattle.canon3.proofs.Common.{[], rules, sym, ◌≡◌, ◌∙◌, source_of, prefix_of_kept}
use Rattle.canon3.proofs.Lemmas.Comparison.ComparisonLemmas.{decides_all}
use Rattle.canon3.proofs.Lemmas.Writing.EntryWriterLemmas.{fresh}
use Rattle.canon3.proofs.comparison.same.Goals as goal

pub judge-result-requires-clause-begins : goal.judge-result-requires-clause-begins
judge-result-requires-clause-begins g c = record {
  a = [];
  b = [];
  first_given = fresh g.A.Source.observed c.through-entries.result c.through-entries.ensures.stands;
  second_given = fresh g.B.Source.observed c.through-others.result c.through-others.ensures.stands;
  compared = search rules;
}

-- the readers gave back the sources that they were lent
pub returns : goal.returns
returns g c =
    let r = c.judge-result in
    let back : _ ≡ source_of r.new.first =
    c.first-1.given.1 (sym (c.into_source.ensures.same_reference ∙ r.ensures.reads.same_first
    ∙ c.through-entries.ensures.same_reference)) ∙ c.into_source.ensures.value in
    let other_back : _ ≡ source_of r.new.second =
    c.second-1.given.1 (sym (c.into_source-2.ensures.same_reference ∙ r.ensures.reads.same_second
    ∙ c.through-others.ensures.same_reference)) ∙ c.into_source-2.ensures.value in
    let old = g.A.Source.observed (source_of c.through-entries.result) in
    let new = g.A.Source.observed (source_of r.new.first) in
    let old_other = g.B.Source.observed (source_of c.through-others.result) in
    let new_other = g.B.Source.observed (source_of r.new.second) in
    rw (back, other_back, ← c.through-entries.ensures.unread, ← c.through-others.ensures.unread)
    (record {
      gave = r.ensures.gave;
      whole =
          λ file other gave other_gave.
          decides_all (old, new) (old_other, new_other) file other
          (λ given. prefix_of_kept old new given file gave)
          (λ given. prefix_of_kept old_other new_other given other other_gave) r.result
          r.ensures.gave;
      read_first = r.ensures.reads.read_first;
      read_second = r.ensures.reads.read_second;
      write = r.ensures.reads.write;
    })
