-- What came of a command line of nfs3streams.
use Rattle.std.specs.Prelude.{◌≡◌, ◌⊎◌, ℕ, List, [], ◌∷◌, ◌++◌, Option, None, Some, Err, codes, option_map}
use Rattle.clap.specs.Words.{fault_of}
use Rattle.capture3.specs.declared.fault.Error.{Error}
use Rattle.capture3.specs.declared.fault.Error.TheVariants as errors
use Rattle.line3.specs.declared.asked.LineFault.{LineFault}
use Rattle.program3.specs.Files.{FailsToOpenRecording, FinishesNone, WrittenFile}
use Rattle.program3.specs.Printed.{Prints, newline}
use Rattle.program3.specs.Readings.{reading_in}
use Rattle.program3.specs.declared.outcome.Outcome.{Outcome}
use Rattle.program3.specs.declared.outcome.Outcome.TheVariants as outcomes
use Rattle.program3.specs.declared.outcome.Report.{Report}
use Rattle.recording3.specs.Places.{Passed}
use Rattle.recording3.specs.declared.frames.RecordingEnd.{RecordingEnd}
use Rattle.nfs3streams.specs.Conversion.{HasFrames, IsFoundIn, MayHave, RecordingReading, Writes}
use Rattle.nfs3streams.specs.Grammar.{streams_app}
use Rattle.nfs3streams.specs.Printed.{Findings, PrintsFindings, PrintsNoRecording}
use Rattle.nfs3streams.specs.StreamsLine.{AreStreamsWordsRefused, AsksForStreams}
use Rattle.nfs3streams.specs.declared.conversion.RecordingReads.{RecordingReads}
use Rattle.nfs3streams.specs.declared.line.asked.StreamsJob.{StreamsJob}

-- a refusal that names a limit
abbrev pub PrintsLimit : Report → Type 0
PrintsLimit report = Prints 2 [] (codes "a stream is too long" ++ newline) report
    ⊎ Prints 2 [] (codes "too many frames" ++ newline) report

-- No part of a recording begins at its front, or it is beyond a limit: so it is refused. Or an
-- error came.
abbrev pub StopsWith : (RecordingEnd → Type 0) → (Error → Type 0) → Outcome → Type 0
StopsWith EndsAt Fails outcome =
    ((report : Report) × (outcome ≡ outcomes.Told report)
    × (((end : RecordingEnd) × (end.offset ≡ 0) × EndsAt end × PrintsNoRecording end report)
    ⊎ PrintsLimit report))
    ⊎ ((error : Error) × (outcome ≡ outcomes.Packed (Err error)) × Fails error)

-- in each file that the reads allow the frames end so
abbrev pub EndsFrames : RecordingReading → RecordingEnd → Type 0
EndsFrames reading end = (file : List ℕ) → MayHave reading file
    → (frames : List Passed) × HasFrames file frames end

-- a read has failed, if that is the error
abbrev pub StopsBy : RecordingReading → Error → Type 0
StopsBy reading errors.Read =
    (reading.start.failures ≡ 1) ⊎ (reading.others.failures ≡ 1)
StopsBy reading _ = Unit {0}

-- what was read of a recording, and the files that were finished, before and after
pub record StreamsRun : Type 0 where
  pub reading : Option RecordingReading
  pub finished : List WrittenFile × List WrittenFile

abbrev pub reading_from : RecordingReads → RecordingReading
reading_from reads = record { start = reading_in reads.start; others = reads.others }

abbrev pub streams_run : Option RecordingReads → List WrittenFile × List WrittenFile → StreamsRun
streams_run reads finished =
    record { reading = option_map reading_from reads; finished = finished }

module _ (run : StreamsRun) where
  -- What was wanted was finished under the output's name. Whatever the recording may have been,
  -- this was found in it.
  pub record ConvertsRecording (job : StreamsJob) (outcome : Outcome) : Type 0 where
    pub found : Findings
    pub report : Report
    pub reading : RecordingReading
    pub read : run.reading ≡ Some reading
    pub told : outcome ≡ outcomes.Told report
    pub prints : PrintsFindings found report
    pub written : WrittenFile
    pub named : written.name ≡ job.output.now
    pub writes : Writes job.wanted (MayHave reading) found written.bytes
    pub finished : run.finished.1 ≡ written ∷ run.finished.0
    pub is : (file : List ℕ) → MayHave reading file → IsFoundIn file job.ports.items found

  -- no file was finished: the recording is refused, or an error stopped the job
  pub record StopsConversion (outcome : Outcome) : Type 0 where
    pub reading : RecordingReading
    pub read : run.reading ≡ Some reading
    pub none : FinishesNone run.finished
    pub stops : StopsWith (EndsFrames reading) (StopsBy reading) outcome

  -- nothing was read, and no file was finished
  abbrev pub TouchesNothing : Type 0
  TouchesNothing = (run.reading ≡ None) × FinishesNone run.finished

  abbrev pub AnswersStreamsJob : StreamsJob → Outcome → Type 0
  AnswersStreamsJob job outcome = ConvertsRecording job outcome ⊎ StopsConversion outcome
      ⊎ (FailsToOpenRecording job.recording.now job.output.now outcome × TouchesNothing)

  -- The words ask for a job, clap finds no fault in them, and this is the outcome; or they are
  -- refused, and nothing is read or written.
  abbrev pub AnswersStreamsLine : (words : List (List ℕ)) → Outcome → Type 0
  AnswersStreamsLine words outcome =
      ((job : StreamsJob) × AsksForStreams words job × (fault_of streams_app words ≡ [])
      × AnswersStreamsJob job outcome)
      ⊎ ((fault : LineFault) × (outcome ≡ outcomes.Line fault)
      × AreStreamsWordsRefused words fault × TouchesNothing)
