use Rattle.canon3.proofs.Common.{ap, ◌∙◌, min, values_of, number_limit}
use Rattle.canon3.proofs.Lemmas.Numbers.HandleTableLemmas.{distinct_held}
use Rattle.canon3.proofs.Lemmas.Writing.Opening.{is_held}
use Rattle.canon3.proofs.canonical_form.MessageWriterEntryWriter.counts.Goals as goal

pub returns : goal.returns
returns g c bytes entries typed passed going rests =
    let (given, table, are) = (is_held c.args.self.now (values_of entries) going rests).handles in
    c.of.ensures bytes entries typed passed
    (c.len.ensures given table ∙ ap (λ n. min n number_limit) (distinct_held given are))
