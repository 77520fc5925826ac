-- What came of a job.
use Rattle.std.proofs.Common.{◌≡◌, ℕ, List, Option, Some, Result, Ok, Err, IfErr, IfOk, inl, inr, refl, sym, subst}
use Rattle.canon3.specs.WriteErrors.{IsOfWriting}
use Rattle.capture3.specs.declared.fault.Error.{Error}
use Rattle.capture3.specs.declared.fault.Error.TheVariants as errors
use Rattle.program3.specs.Files.{FinishesNone, WrittenFile}
use Rattle.program3.specs.declared.outcome.Outcome.{Outcome}
use Rattle.program3.specs.declared.outcome.Report.{Report}
use Rattle.nfs3streams.specs.Conversion.{MayHave, RecordingReading}
use Rattle.nfs3streams.specs.Streams.{AnswersStreamsJob, EndsFrames, StopsBy, StopsWith, reading_from, streams_run}
use Rattle.nfs3streams.specs.declared.conversion.RecordingReads.{RecordingReads}
use Rattle.nfs3streams.specs.declared.line.asked.StreamsJob.{StreamsJob}
use Rattle.nfs3streams.specs.machinery.Converting.{ConvertsTo, FinishesFile}

-- an error of writing says nothing of reads
stops_writing : (reading : RecordingReading) (error : Error) → IsOfWriting error
    → StopsBy reading error
stops_writing reading errors.Read (inl is) = absurd (cc)
stops_writing reading errors.Read (inr is) = absurd (cc)
stops_writing reading errors.Write of = tt
stops_writing reading errors.Memory of = tt
stops_writing reading (errors.Refused fault) of = tt

pub answers_job : {W : Type 0} (contents : W → Option (List ℕ)) (reads : RecordingReads)
    (finished : List WrittenFile × List WrittenFile) (job : StreamsJob)
    (came : Result (Report × W) Outcome) (name : List ℕ) (outcome : Outcome)
    → name ≡ job.output.now
    → IfOk came (λ done. ConvertsTo (MayHave (reading_from reads)) job done.0 (contents done.1))
    → IfErr came (StopsWith (EndsFrames (reading_from reads)) (StopsBy (reading_from reads)))
    → IfOk came (λ done. FinishesFile (name, contents done.1) finished done.0 outcome)
    → IfErr came (λ stopped. (outcome ≡ stopped) × FinishesNone finished)
    → AnswersStreamsJob (streams_run (Some reads) finished) job outcome
answers_job contents reads finished job (Ok done) name outcome named to stops
    (inl (told, last)) none =
    inl (record {
      found = to.found;
      report = done.0;
      reading = reading_from reads;
      read = refl;
      told = told;
      prints = to.prints;
      written = record { name = name; bytes = contents done.1 };
      named = named;
      writes = to.writes;
      finished = last;
      is = to.is;
    })
answers_job contents reads finished job (Ok done) name outcome named to stops
    (inr (error, is, of, kept)) none =
    inr (inl (record {
      reading = reading_from reads;
      read = refl;
      none = kept;
      stops = inr (error, is, stops_writing (reading_from reads) error of);
    }))
answers_job contents reads finished job (Err stopped) name outcome named to stops whole (is, kept) =
    inr (inl (record {
      reading = reading_from reads;
      read = refl;
      none = kept;
      stops =
          subst (StopsWith (EndsFrames (reading_from reads)) (StopsBy (reading_from reads)))
          (sym is)
          stops;
    }))
