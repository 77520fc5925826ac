use Rattle.std.proofs.Common.{None, ap, refl, sym, ◌∙◌}
use Rattle.nfs3streams.proofs.ConversionLemmas.{converts_still, prefix_given, stops_job}
use Rattle.nfs3streams.proofs.conversion.convert.Goals as goal

pub returns-clause-named : goal.returns-clause-named
returns-clause-named g c =
    let opened = c.new-opened.ensures (λ name. None) refl in
    ap (λ r. r.name) c.close.ensures ∙ opened.0

pub returns-clause-converts : goal.returns-clause-converts
returns-clause-converts g c = λ empty.
    let opened = c.new-opened.ensures (λ name. None) refl in
    converts_still g.W.Write.contents c.convert_read-came.result _ _ c.args.job.now
    (λ file may. (
      prefix_given _ c.new-opened.result.name.bytes c.new-opened.result.source
          c.convert_read-came.new.source _ opened.1 (sym c.close.ensures) file may.start,
      rw (← c.into_reads.ensures) may.others,
    )) (c.convert_read-came.ensures.converts empty)

pub returns-clause-stops : goal.returns-clause-stops
returns-clause-stops g c =
    let opened = c.new-opened.ensures (λ name. None) refl in
    stops_job _ c.new-opened.result.name.bytes c.new-opened.result.source
    c.convert_read-came.new.source c.new-recorded.result c.convert_read-came.new.recorded
    (record { start = c.close.result; others = c.into_reads.result }) c.convert_read-came.result
    opened.1 (ap (λ r. r.failures) c.new-recorded.ensures) (sym c.close.ensures)
    (sym c.into_reads.ensures) c.convert_read-came.ensures.stops
