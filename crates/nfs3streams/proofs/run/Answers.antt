use Rattle.std.proofs.Common.{map, string_bytes, subst}
use Rattle.program3.specs.Systems.{finished_of}
use Rattle.nfs3streams.specs.Streams.{AnswersStreamsLine, streams_run}
use Rattle.nfs3streams.proofs.run.Goals as goal

pub returns : goal.returns
returns c =
    let answer = c.answer_line-answer.result in
    record {
      answers =
          subst
          (λ before.
          AnswersStreamsLine
          (streams_run answer.reads (before, finished_of c.answer_line-answer.new.files))
          (map string_bytes c.args.words.items) answer.ended.outcome) c.new-files.ensures
          c.answer_line-answer.ensures.answers;
    }
