-- What a conversion shows of a recording.
use Rattle.std.proofs.Common.{Global, Vec, ◌≡◌, ◌⊎◌, ◌∙◌, ◌++◌, ℕ, List, [], Option, None, Some, Result, Ok, Err, IfErr, IfOk, MatchResult, inl, inr, refl, sym, ap, subst}
use Rattle.std.specs.declared.alloc.AllocError.{AllocError}
use Rattle.std.specs.Io.KnownBytes.{Appends}
use Rattle.std.proofs.lemmas.List.{append_cancel_left}
use Rattle.capture3.specs.Device.{TracedReader}
use Rattle.capture3.specs.Observed.{Gave, GavePrefix, IsSpent, Observed}
use Rattle.capture3.specs.declared.fault.Error.{Error}
use Rattle.capture3.specs.declared.fault.Error.TheVariants as errors
use Rattle.connections3.specs.Frames.{ShowsFrames}
use Rattle.connections3.specs.declared.connection.Connection.{Connection}
use Rattle.connections3.specs.declared.taker.NotTaken.{NotTaken}
use Rattle.connections3.specs.declared.taker.PacketTaker.{PacketTaker}
use Rattle.index3.specs.Frames.{AreRows, KeepsFrames}
use Rattle.index3.specs.declared.frames.FrameRow.{FrameRow}
use Rattle.index3.specs.declared.frames.FrameTable.{FrameTable}
use Rattle.payload3.specs.Readings.{Allow, OffsetRead, RecordedReads}
use Rattle.program3.specs.Readings.{BeginsWithReads, FileReading, IsUnread, reading_under}
use Rattle.program3.proofs.FilesLemmas.{observed_of}
use Rattle.program3.specs.declared.outcome.Outcome.{Outcome}
use Rattle.program3.specs.declared.outcome.Outcome.TheVariants as outcomes
use Rattle.program3.specs.declared.outcome.Report.{Report}
use Rattle.recording3.specs.Frames.{CountsFailedReads, Extends, ReadsFrames, ReadsRecording}
use Rattle.recording3.specs.Outcomes.{Tallied}
use Rattle.recording3.specs.Places.{MayGoOn, Passed}
use Rattle.recording3.specs.declared.frames.Failed.{Failed}
use Rattle.recording3.specs.declared.frames.Failed.TheVariants as failures
use Rattle.recording3.specs.declared.frames.RecordingEnd.{RecordingEnd}
use Rattle.recording3.specs.declared.outcomes.Tally.{Tally}
use Rattle.nfs3streams.specs.Conversion.{HasFrames, RecordingReading, ShowFrames, Writes}
use Rattle.nfs3streams.specs.Printed.{Findings, PrintsNoRecording}
use Rattle.nfs3streams.specs.Streams.{EndsFrames, PrintsLimit, StopsBy, StopsWith, reading_from}
use Rattle.nfs3streams.specs.machinery.Converting.{ConvertsTo, CountsFailure, DecidesOn, IsReadOf, ReadsConnections, StopsAtStart, TellsFailed, WritesWanted, found_of, index_in}
use Rattle.nfs3streams.specs.declared.connections.RecordingRead.{RecordingRead}
use Rattle.nfs3streams.specs.declared.conversion.RecordingReads.{RecordingReads}
use Rattle.nfs3streams.specs.declared.decided.Decided.{Decided}
use Rattle.nfs3streams.specs.declared.line.asked.StreamsJob.{StreamsJob}
use Rattle.nfs3streams.specs.declared.line.asked.Wanted.{Wanted}
use Rattle.nfs3streams.specs.declared.line.asked.Wanted.TheVariants.{Capture, Index}

-- ---- the frames of a file

-- what a source gave is a front of the file
front_of : (old new : Observed) (file front : List ℕ) → Gave old new front
    → (p : GavePrefix old new file) → p.given ≡ front
front_of old new file front gave p =
    let e =
    subst (λ (o : Option (List ℕ)). Appends (Some p.start) o front) p.now
    (subst (λ (o : Option (List ℕ)). Appends o new.given front) p.was gave.1) in
    append_cancel_left p.start p.given front e

pub has_frames : (old new : Observed) (file front : List ℕ) (frames : List Passed)
    (end : RecordingEnd) → Gave old new front → ReadsRecording 0 front frames end
    → (MayGoOn end.why → IsSpent new) → GavePrefix old new file → HasFrames file frames end
has_frames old new file front frames end gave reads all p = record {
  front = front;
  rest = p.rest;
  split = p.split ∙ ap (λ l. l ++ p.rest) (front_of old new file front gave p);
  reads = reads;
  all = λ more. p.all (all more);
}

-- more is known of the frames
pub took_still : (source : Observed × Observed) (One Other : List Passed → Type 0)
    (end : RecordingEnd) → ((frames : List Passed) → One frames → Other frames)
    → ReadsFrames 0 source One end → ReadsFrames 0 source Other end
took_still source One Other end more r = record {
  file = r.file;
  frames = r.frames;
  gave = r.gave;
  reads = r.reads;
  took = more r.frames r.took;
  all = r.all;
}

-- what a taker took of a recording
pub read_by_taker : (source : Observed × Observed) (none taker : PacketTaker) (end : RecordingEnd)
    (read : RecordingRead) → ShowsFrames none []
    → ReadsFrames 0 source (Extends (ShowsFrames none) (ShowsFrames taker)) end → read.end ≡ end
    → read.tally ≡ taker.tally → read.connections.items ≡ taker.connections
    → ReadsConnections source Capture read
unfolding Extends
read_by_taker source none taker end read empty r same tally connections =
    subst (ReadsFrames 0 source (IsReadOf Capture read)) (sym same)
    (took_still source (Extends (ShowsFrames none) (ShowsFrames taker)) (IsReadOf Capture read) end
    (λ frames extends.
    let took : ShowsFrames taker frames = extends [] empty in (
      subst (λ (t : Tally). Tallied frames t) (sym tally) took.tallied,
      subst (λ (cs : List Connection). ShowFrames cs frames) (sym connections)
          (record { packets = took.packets; have = took.have; shows = took.shows }),
      tt,
    )) r)

-- what a table kept of it
pub read_by_table : (source : Observed × Observed) (none table : FrameTable) (end : RecordingEnd)
    (read : RecordingRead) → KeepsFrames none []
    → ReadsFrames 0 source (Extends (KeepsFrames none) (KeepsFrames table)) end → read.end ≡ end
    → read.tally ≡ table.taker.tally → read.connections.items ≡ table.taker.connections
    → read.frames ≡ table.rows → ReadsConnections source Index read
unfolding Extends
read_by_table source none table end read empty r same tally connections rows =
    subst (ReadsFrames 0 source (IsReadOf Index read)) (sym same)
    (took_still source (Extends (KeepsFrames none) (KeepsFrames table)) (IsReadOf Index read) end
    (λ frames extends.
    let kept : KeepsFrames table frames = extends [] empty in
    let took = kept.shows in (
      subst (λ (t : Tally). Tallied frames t) (sym tally) took.tallied,
      subst (λ (cs : List Connection). ShowFrames cs frames) (sym connections)
          (record { packets = took.packets; have = took.have; shows = took.shows }),
      subst (λ (v : Vec FrameRow Global). AreRows frames v.items) (sym rows) kept.rows,
    )) r)

-- ---- why a conversion stops

-- more is known of it
pub stops_still : (One Other : RecordingEnd → Type 0) (Fails Errs : Error → Type 0)
    (outcome : Outcome) → ((end : RecordingEnd) → One end → Other end)
    → ((error : Error) → Fails error → Errs error) → StopsWith One Fails outcome
    → StopsWith Other Errs outcome
stops_still One Other Fails Errs outcome ends errs
    (inl (report, is, inl (end, front, one, prints))) =
    inl (report, is, inl (end, front, ends end one, prints))
stops_still One Other Fails Errs outcome ends errs (inl (report, is, inr limit)) =
    inl (report, is, inr limit)
stops_still One Other Fails Errs outcome ends errs (inr (error, is, fails)) =
    inr (error, is, errs error fails)

-- no header was found
pub stops_none : (source : Observed × Observed) (counts : ℕ × ℕ) (end : RecordingEnd)
    (report : Result Report AllocError) (outcome : Outcome) → end.offset ≡ 0
    → ReadsFrames 0 source (λ frames. Unit {0}) end → IfOk report (PrintsNoRecording end)
    → MatchResult report (λ told. outcome ≡ outcomes.Told told)
    (λ _. outcome ≡ outcomes.Packed (Err errors.Memory))
    → StopsAtStart source counts outcome
stops_none source counts end (Ok report) outcome front reads prints is =
    inl (report, is, inl (end, front, reads, prints))
stops_none source counts end (Err error) outcome front reads prints is = inr (errors.Memory, is, tt)

pub took_some : (source : Observed × Observed) (Took : List Passed → Type 0) (end : RecordingEnd)
    → ReadsFrames 0 source Took end → ReadsFrames 0 source (λ frames. Unit {0}) end
took_some source Took end r = took_still source Took (λ frames. Unit {0}) end (λ frames took. tt) r

-- a limit was passed
pub tells_limit : (failed : Failed NotTaken) (report : Result Report AllocError) (outcome : Outcome)
    → IfOk report PrintsLimit
    → MatchResult report (λ told. outcome ≡ outcomes.Told told)
    (λ _. outcome ≡ outcomes.Packed (Err errors.Memory))
    → TellsFailed failed outcome
tells_limit failed (Ok report) outcome limit is = inl (report, is, limit)
tells_limit failed (Err error) outcome limit is = inr (errors.Memory, is, λ e. absurd (cc))

pub limit_or : (report : Result Report AllocError) → (One : Report → Type 0)
    → ((told : Report) → One told → PrintsLimit told) → IfOk report One → IfOk report PrintsLimit
limit_or (Ok report) One is one = is report one
limit_or (Err error) One is one = tt

-- reading failed
pub stops_failed : (X : Type 0) (source : Observed × Observed) (old new : ℕ)
    (failed : Failed NotTaken) (outcome : Outcome)
    → CountsFailedReads {X = X} {E = NotTaken} old new (Err failed) → TellsFailed failed outcome
    → StopsAtStart source (old, new) outcome
stops_failed X source old new failed outcome counts (inl (report, is, limit)) =
    inl (report, is, inr limit)
stops_failed X source old new failed outcome counts (inr (error, is, only)) =
    inr (error, is, by_error error failed only counts)
  where
    by_error : (error : Error) (failed : Failed NotTaken)
        → (error ≡ errors.Read → failed ≡ failures.Read)
        → CountsFailedReads {X = X} {E = NotTaken} old new (Err failed)
        → CountsFailure (old, new) error
    by_error errors.Read failures.Read only counts = λ none. rw (counts, none) refl
    by_error errors.Read failures.Memory only counts = let e = only refl in absurd (cc)
    by_error errors.Read (failures.Taker why) only counts = let e = only refl in absurd (cc)
    by_error errors.Write failed only counts = tt
    by_error errors.Memory failed only counts = tt
    by_error (errors.Refused fault) failed only counts = tt

-- ---- all of it

-- what was written of what was found
writes_found : (wanted : Wanted) (IsOneOf : List ℕ → Type 0) (read : RecordingRead)
    (ports : List ℕ) (before after : List OffsetRead) (d : Decided) (frames : List Passed)
    (written : Option (List ℕ)) → IsReadOf wanted read frames → DecidesOn read ports before d
    → ((file : List ℕ) → IsOneOf file → Allow after file)
    → ((file : List ℕ) → Allow after file → Allow before file)
    → WritesWanted wanted d after written → Writes wanted IsOneOf (found_of frames read d) written
writes_found Capture IsOneOf read ports before after d frames written is decides allows more w =
    record {
      pairs = w.0;
      capture = w.1;
      sent = λ file one.
          let allowed = allows file one in
          w.2 file ports read.connections.items allowed decides.ordered
          (decides.are file (more file allowed));
    }
writes_found Index IsOneOf read ports before after d frames written is decides allows more w =
    record {
      index = index_in d;
      is = w;
      end = decides.end;
      frames = subst (AreRows frames) (sym decides.frames) is.2;
      connections = decides.ordered;
      decisions = refl;
    }

pub converts : (old new : Observed) (job : StreamsJob) (read : RecordingRead)
    (before after : List OffsetRead) (d : Decided) (written : Option (List ℕ))
    → ReadsConnections (old, new) job.wanted read → DecidesOn read job.ports.items before d
    → ((file : List ℕ) → Allow after file → Allow before file)
    → WritesWanted job.wanted d after written
    → ConvertsTo (λ file. GavePrefix old new file × Allow after file) job d.report written
converts old new job read before after d written r decides more w = record {
  found = found_of r.frames read d;
  prints = decides.prints r.frames;
  writes =
      writes_found job.wanted (λ file. GavePrefix old new file × Allow after file) read
      job.ports.items before after d r.frames written r.took decides (λ file one. one.1) more w;
  is = λ file one. record {
    has = has_frames old new file r.file r.frames read.end r.gave r.reads r.all one.0;
    tallied = r.took.0;
    show = r.took.1;
    decided = decides.are file (more file one.1);
  };
}

-- ---- of the files of a job

pub stops_read : (old new : Observed) (counts others : ℕ × ℕ) (outcome : Outcome)
    → StopsAtStart (old, new) counts outcome
    → StopsWith
    (λ end. (file : List ℕ) → GavePrefix old new file
    → (frames : List Passed) × HasFrames file frames end)
    (λ error. CountsFailure counts error ⊎ CountsFailure others error) outcome
stops_read old new counts others outcome =
    stops_still (λ end. ReadsFrames 0 (old, new) (λ frames. Unit {0}) end)
    (λ end. (file : List ℕ) → GavePrefix old new file
    → (frames : List Passed) × HasFrames file frames end) (CountsFailure counts)
    (λ error. CountsFailure counts error ⊎ CountsFailure others error) outcome
    (λ end r file gives. (
      r.frames,
      has_frames old new file r.file r.frames end r.gave r.reads r.all gives,
    )) (λ error fails. inl fails)

-- a file that begins with what its reads gave
pub prefix_given : {R : Type 0} (remaining : R → Option (List ℕ)) (name : List ℕ)
    (was now : TracedReader R) (reading : FileReading) → IsUnread remaining None was
    → reading_under name now ≡ reading → (file : List ℕ) → BeginsWithReads reading file
    → GavePrefix (observed_of remaining was) (observed_of remaining now) file
prefix_given remaining name was now reading unread is file begins =
    let b = subst (λ (r : FileReading). BeginsWithReads r file) (sym is) begins in
    record {
      start = [];
      given = now.given;
      rest = b.rest;
      was = ap Some unread.given;
      now = refl;
      split = b.split;
      all = λ spent. b.all spent.0;
    }

-- so of fewer files
writes_still : (wanted : Wanted) (One Other : List ℕ → Type 0) (found : Findings)
    (written : Option (List ℕ)) → ((file : List ℕ) → Other file → One file)
    → Writes wanted One found written → Writes wanted Other found written
writes_still Capture One Other found written one w = record {
  pairs = w.pairs;
  capture = w.capture;
  sent = λ file other. w.sent file (one file other);
}
writes_still Index One Other found written one w = w

pub converts_still : {W : Type 0} (contents : W → Option (List ℕ))
    (r : Result (Report × W) Outcome) (One Other : List ℕ → Type 0) (job : StreamsJob)
    → ((file : List ℕ) → Other file → One file)
    → IfOk r (λ done. ConvertsTo One job done.0 (contents done.1))
    → IfOk r (λ done. ConvertsTo Other job done.0 (contents done.1))
converts_still contents (Err outcome) One Other job one to = tt
converts_still contents (Ok done) One Other job one to = record {
  found = to.found;
  prints = to.prints;
  writes =
      writes_still job.wanted One Other to.found (contents done.1) one to.writes;
  is = λ file other. to.is file (one file other);
}

-- a read failed, if that is the error
stops_by : (reading : RecordingReading) (one other : ℕ × ℕ) (error : Error) → one.0 ≡ 0
    → other.0 ≡ 0 → one.1 ≡ reading.start.failures → other.1 ≡ reading.others.failures
    → CountsFailure one error ⊎ CountsFailure other error → StopsBy reading error
stops_by reading one other errors.Read none nothing first second fails = elim fails [
  | inl failed ↦ inl (sym first ∙ failed none)
  | inr failed ↦ inr (sym second ∙ failed nothing)
]
stops_by reading one other errors.Write none nothing first second fails = tt
stops_by reading one other errors.Memory none nothing first second fails = tt
stops_by reading one other (errors.Refused fault) none nothing first second fails = tt

pub stops_job : {R W : Type 0} (remaining : R → Option (List ℕ)) (name : List ℕ)
    (was now : TracedReader R) (before after : RecordedReads) (reads : RecordingReads)
    (r : Result (Report × W) Outcome) → IsUnread remaining None was → before.failures ≡ 0
    → reading_under name now ≡ (reading_from reads).start → after ≡ reads.others
    → IfErr r (StopsWith
    (λ end. (file : List ℕ)
    → GavePrefix (observed_of remaining was) (observed_of remaining now) file
    → (frames : List Passed) × HasFrames file frames end)
    (λ error. CountsFailure (was.failures, now.failures) error
    ⊎ CountsFailure (before.failures, after.failures) error))
    → IfErr r (StopsWith (EndsFrames (reading_from reads)) (StopsBy (reading_from reads)))
stops_job remaining name was now before after reads (Ok done) unread none is same stops = tt
stops_job remaining name was now before after reads (Err outcome) unread none is same stops =
    stops_still _ (EndsFrames (reading_from reads)) _ (StopsBy (reading_from reads)) outcome
    (λ end ends file may.
    ends file
    (prefix_given remaining name was now (reading_from reads).start unread is file may.start))
    (λ error.
    stops_by (reading_from reads) (was.failures, now.failures)
    (before.failures, after.failures) error
    unread.failures none (ap (λ (r : FileReading). r.failures) is)
    (ap (λ (r : RecordedReads). r.failures) same)) stops
