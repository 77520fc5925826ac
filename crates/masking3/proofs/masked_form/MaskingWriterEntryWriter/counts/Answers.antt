use Rattle.masking3.proofs.Common.{List, ℕ, ap, append-nil, ◌∙◌, length, min, subst, bytes_eq, flat_map, visited_entry, Gathers, distinct, number_limit}
use Rattle.masking3.proofs.Lemmas.Writing.VisitedItems.{handles_before}
use Rattle.masking3.proofs.Lemmas.Writing.WriterLemmas.{rested}
use Rattle.masking3.proofs.masked_form.MaskingWriterEntryWriter.counts.Goals as goal

pub returns : goal.returns
returns g c bytes entries typed passed goes stands =
    let front = flat_map visited_entry entries in
    let gathered =
    subst (Gathers c.args.self.now.handles) (append-nil front)
    (rested g.P.Plan.ways c.args.self.now front goes stands).handles in
    c.of.ensures bytes entries typed passed
    (c.len.ensures front gathered
    ∙ ap (λ (l : List (List ℕ)). min (length (distinct bytes_eq l)) number_limit)
    (handles_before entries))
