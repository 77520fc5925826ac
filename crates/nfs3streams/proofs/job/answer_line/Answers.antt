use Rattle.std.proofs.Common.{ap, inl, inr, map, option_map, refl, string_bytes, subst, ◌≡◌, []}
use Rattle.clap.specs.Words.{fault_of}
use Rattle.nfs3streams.specs.Grammar.{streams_app}
use Rattle.nfs3streams.specs.Streams.{reading_from}
use Rattle.nfs3streams.specs.StreamsLine.{AreStreamsWordsRefused, AsksForStreams}
use Rattle.nfs3streams.proofs.job.answer_line.Goals as goal

pub returns-in-Ok : goal.returns-in-Ok
returns-in-Ok g c =
    let value = c.as_slice.ensures.value in
    record {
      answers =
          inl (
            c.in-Ok.job,
            subst (λ l. AsksForStreams (map string_bytes l) c.in-Ok.job)
                value c.in-Ok.ensures.asked,
            subst (λ l. fault_of streams_app (map string_bytes l) ≡ []) value
                c.in-Ok.ensures.accepted,
            c.answer_job.ensures,
          );
    }

pub returns : goal.returns
returns g c =
    record {
      answers =
          inr (
            c.in-Err.fault,
            c.refusal.ensures.outcome,
            subst (λ l. AreStreamsWordsRefused (map string_bytes l) c.in-Err.fault)
                c.as_slice.ensures.value c.in-Err.ensures.refused,
            (ap (option_map reading_from) c.refusal.ensures.reads, refl),
          );
    }
