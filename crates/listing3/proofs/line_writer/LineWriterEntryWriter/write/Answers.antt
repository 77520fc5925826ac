use Rattle.listing3.proofs.Common.{List, [], ◌++◌, refl, subst, sym, Item, all_items, after_front, LineRests, items_of}
use Rattle.canon3.proofs.Lemmas.Progress.SummaryLemmas.{items_with_last}
use Rattle.canon3.proofs.Lemmas.Writing.EntryWriterLemmas.{lent_kind}
use Rattle.listing3.proofs.Lines.LineLemmas.{gathered_after, listed_more}
use Rattle.listing3.proofs.line_writer.LineWriterEntryWriter.write.Goals as goal

pub returns-clause-writes : goal.returns-clause-writes
returns-clause-writes g c old entries one next told written =
    let kind = lent_kind c.args.entry c.kind.result one c.kind.ensures next.is_lent.0 in
    let all = all_items entries ++ items_of one in
    let gathered =
    subst (λ t. g.H.Visit.stands t all) (sym c.write_entry.ensures.handles)
    (gathered_after g.H.Visit.stands c.args.self.now entries one told) in
    listed_more g.H.Visit.stands c.write_entry.new.self old (g.W.Sink.written c.args.sink.now)
    (g.W.Sink.written c.write_entry.new.sink) c.args.progress entries one
    c.write_entry.result next.passed written
    (subst
    (λ (l : List Item). LineRests g.H.Visit.stands c.write_entry.new.self (after_front l []))
    (sym (items_with_last entries one)) (all, refl, gathered))
    (c.write_entry.ensures.writes entries one kind (c.body_of.ensures one next.is_lent.0) next.first
    next.passed next.few
    told)
