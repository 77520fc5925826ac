use Rattle.recording3.specs.declared.frames.RecordingEnd.{RecordingEnd}
use Rattle.nfs3streams.proofs.ConversionLemmas.{stops_failed, stops_none, took_some}
use Rattle.nfs3streams.proofs.connections.read_all.Goals as goal

pub returns-in-Ok-clause-err : goal.returns-in-Ok-clause-err
returns-in-Ok-clause-err g c =
    let observed = g.R.Source.observed in
    let failures = g.R.Source.failures in
    let was = c.args.source.now in
    let now = c.read_frames.new.source in
    stops_none (observed was, observed now) (failures was, failures now) c.in-Ok.end
    c.no_recording_report.result c.reported.result c.if-end-eq0.true
    (took_some (observed was, observed now) _ c.in-Ok.end c.in-Ok.ensures.ok)
    c.no_recording_report.ensures c.reported.ensures

pub returns-in-Err-clause-err : goal.returns-in-Err-clause-err
returns-in-Err-clause-err g c =
    let observed = g.R.Source.observed in
    let failures = g.R.Source.failures in
    let was = c.args.source.now in
    let now = c.read_frames.new.source in
    stops_failed RecordingEnd (observed was, observed now) (failures was) (failures now)
    c.in-Err.failed c.stopped.result c.in-Err.ensures.count c.stopped.ensures
