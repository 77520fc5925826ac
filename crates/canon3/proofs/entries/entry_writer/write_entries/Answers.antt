use Rattle.canon3.proofs.Common.{[], sym, ◌≡◌, ◌∙◌, Ok, error_is, inl, source_of, prefix_of_kept}
use Rattle.std.proofs.KnownBytes.{Appends-kept}
use Rattle.canon3.proofs.Lemmas.Writing.EntryWriterLemmas.{all_written, begun, fresh, nothing_written}
use Rattle.canon3.proofs.Lemmas.Writing.SinkWritesLemmas.{whole_front}
use Rattle.canon3.proofs.entries.entry_writer.write_entries.Goals as goal

-- in each of these the reader gave back the source that it was lent
pub returns-in-Ok-flush_all-clause-writes : goal.returns-in-Ok-flush_all-clause-writes
returns-in-Ok-flush_all-clause-writes g c =
    let w = c.write_rest-written in
    let observed = g.R.Source.observed in
    let old = g.W.Sink.written c.args.sink.now in
    let back : _ ≡ source_of w.new.entries =
    c.source-1.given.1 (sym (c.into_source.ensures.same_reference ∙ w.ensures.devices.same_reference
    ∙ c.through-entries.ensures.same_reference)) ∙ c.into_source.ensures.value in
    let done =
    rw c.in_ok-written.was at
    (w.ensures.over (observed (source_of c.through-entries.result)) [] old
    (fresh observed c.through-entries.result c.through-entries.ensures.stands)
    (begun c.requires.well c.requires.new c.requires.empty)) in
    let came =
    c.progress-progress.ensures done.has_given.given done.more done.has_given.stands
    c.in_ok-written.ensures.going in
    rw (back, ← c.through-entries.ensures.unread) (
      done.more,
      done.all,
      c.counts.ensures done.all.given done.more done.all.typed came done.wrote.goes
          done.wrote.stands_for,
      Appends-kept old _ _ _ done.wrote.written c.flush_all.ensures.bytes,
    )

pub returns-in-Ok-flush_all-clause-whole : goal.returns-in-Ok-flush_all-clause-whole
returns-in-Ok-flush_all-clause-whole g c bytes gave =
    let first = g.R.Source.observed c.args.source.now in
    all_written _ g.E.EntryWriter.are_counts bytes first _ _ _
    (Ok c.counts.result) (λ given. prefix_of_kept first _ given bytes gave)
    (returns-in-Ok-flush_all-clause-writes g c)

pub returns-in-Err-flush_all-clause-writes : goal.returns-in-Err-flush_all-clause-writes
returns-in-Err-flush_all-clause-writes g c =
    let w = c.write_rest-written in
    let observed = g.R.Source.observed in
    let old = g.W.Sink.written c.args.sink.now in
    let back : _ ≡ source_of w.new.entries =
    c.source-1.given.1 (sym (c.into_source.ensures.same_reference ∙ w.ensures.devices.same_reference
    ∙ c.through-entries.ensures.same_reference)) ∙ c.into_source.ensures.value in
    let done =
    rw c.in_ok-written.was at
    (w.ensures.over (observed (source_of c.through-entries.result)) [] old
    (fresh observed c.through-entries.result c.through-entries.ensures.stands)
    (begun c.requires.well c.requires.new c.requires.empty)) in
    let whole = Appends-kept old _ _ _ done.wrote.written c.flush_all.ensures.bytes in
    rw (back, ← c.through-entries.ensures.unread) (
      done.all.given,
      done.all.gave,
      (done.more, inl done.all.typed, whole_front old _ _ whole),
    )

pub returns-in_err-written-clause-writes : goal.returns-in_err-written-clause-writes
returns-in_err-written-clause-writes g c =
    let w = c.write_rest-written in
    let observed = g.R.Source.observed in
    let old = g.W.Sink.written c.args.sink.now in
    let back : _ ≡ source_of w.new.entries =
    c.source-1.given.1 (sym (c.into_source.ensures.same_reference ∙ w.ensures.devices.same_reference
    ∙ c.through-entries.ensures.same_reference)) ∙ c.into_source.ensures.value in
    let done =
    rw c.in_err-written.was at
    (w.ensures.over (observed (source_of c.through-entries.result)) [] old
    (fresh observed c.through-entries.result c.through-entries.ensures.stands)
    (begun c.requires.well c.requires.new c.requires.empty)) in
    rw (error_is _ _ c.from_residual.ensures, back, ← c.through-entries.ensures.unread) done

pub returns-in_err-written-clause-whole : goal.returns-in_err-written-clause-whole
returns-in_err-written-clause-whole g c bytes gave =
    let first = g.R.Source.observed c.args.source.now in
    all_written _ g.E.EntryWriter.are_counts bytes first _ _ _ _
    (λ given. prefix_of_kept first _ given bytes gave) (returns-in_err-written-clause-writes g c)

pub returns-in-Err-clause-writes : goal.returns-in-Err-clause-writes
returns-in-Err-clause-writes g c =
    nothing_written g.E.EntryWriter.form c.requires.prefixes
    (g.R.Source.observed c.args.source.now) (g.W.Sink.written c.args.sink.now)
