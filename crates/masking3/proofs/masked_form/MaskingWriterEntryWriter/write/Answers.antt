use Rattle.masking3.proofs.Common.{List, [], ap, ap₂, subst, sym, ◌∙◌, flat_map, Item, items_of, Ways, after_messages, visited_entry, MaskRests, written_as, way_of, Machines}
use Rattle.capture3.proofs.Lemmas.Reader.PassedOn.{error_is}
use Rattle.canon3.proofs.Lemmas.Writing.EntryWriterLemmas.{lent_kind}
use Rattle.masking3.proofs.Lemmas.Writing.FormLemmas.{all_written, cut_in_entry, cut_in_magic, entry_is, last_begins, nothing_more}
use Rattle.masking3.proofs.Lemmas.Classes.MessageSpotLemmas.{entry_side}
use Rattle.masking3.proofs.Lemmas.Writing.VisitedItems.{before_with_last}
use Rattle.masking3.proofs.Lemmas.Writing.WriterLemmas.{heard}
use Rattle.masking3.proofs.masked_form.MaskingWriterEntryWriter.write.Goals as goal

pub returns-then-self-clause-writes : goal.returns-then-self-clause-writes
returns-then-self-clause-writes g c old entries one next told written =
    let now = g.W.Sink.written c.args.sink.now in
    nothing_more g.P.Plan.ways old now now now entries one c.args.progress.connections
    next.first next.passed.place.connections_are written

pub returns-in_err-write_magic-clause-writes : goal.returns-in_err-write_magic-clause-writes
returns-in_err-write_magic-clause-writes g c old entries one next told written =
    let between = g.W.Sink.written c.write_magic.new.sink in
    rw (error_is _ _ c.from_residual.ensures)
    (cut_in_magic g.P.Plan.ways old (g.W.Sink.written c.args.sink.now) between between entries one
    c.args.progress.connections next.first next.passed.place.connections_are written
    c.in_err-write_magic.ensures.err)

pub returns-in_err-write_entry-clause-writes : goal.returns-in_err-write_entry-clause-writes
returns-in_err-write_entry-clause-writes g c old entries one next told written =
    let is =
    heard g.P.Plan.ways c.args.self.now (flat_map visited_entry entries) one
    (last_begins entries one next.first) c.if-self.false told in
    rw (error_is _ _ c.from_residual-in_err-write_entry.ensures)
    (cut_in_entry g.P.Plan.ways old (g.W.Sink.written c.args.sink.now)
    (g.W.Sink.written c.write_magic.new.sink) (g.W.Sink.written c.write_entry.new.sink) entries one
    c.args.progress.connections next.first next.passed.place.connections_are written
    (written_as c.way-machines.result c.kind.result c.bytes.result.now)
    (ap₂ (λ way body. written_as way c.kind.result body)
    (c.way-machines.ensures ∙ ap (λ (w : Ways). way_of w Machines) is.ways_are) c.bytes.ensures
    ∙ entry_is g.P.Plan.ways c.args.self.now.writer c.kind.result entries one
    (lent_kind c.args.entry c.kind.result one c.kind.ensures next.is_lent.0) next.first is.written)
    c.in_ok-write_magic.ensures.ok c.in_err-write_entry.ensures.err)

pub returns-clause-writes : goal.returns-clause-writes
returns-clause-writes g c old entries one next told written =
    let is =
    heard g.P.Plan.ways c.args.self.now (flat_map visited_entry entries) one
    (last_begins entries one next.first) c.if-self.false told in (
      c.end_message.ensures.going c.if-self.false,
      subst
          (λ (l : List Item). MaskRests g.P.Plan.ways c.end_message.new.self (after_messages l []))
          (sym (before_with_last entries one)) (c.end_message.ensures.rests
          (flat_map visited_entry entries) (items_of one) (entry_side one) is),
      all_written g.P.Plan.ways old (g.W.Sink.written c.args.sink.now)
          (g.W.Sink.written c.write_magic.new.sink) (g.W.Sink.written c.write_entry.new.sink)
          entries one
          c.args.progress.connections next.first next.passed.place.connections_are written
          (written_as c.way-machines.result c.kind.result c.bytes.result.now)
          (ap₂ (λ way body. written_as way c.kind.result body)
          (c.way-machines.ensures ∙ ap (λ (w : Ways). way_of w Machines) is.ways_are)
          c.bytes.ensures
          ∙ entry_is g.P.Plan.ways c.args.self.now.writer c.kind.result entries one
          (lent_kind c.args.entry c.kind.result one c.kind.ensures next.is_lent.0) next.first
          is.written) c.in_ok-write_magic.ensures.ok c.in_ok-write_entry.ensures.ok,
    )
