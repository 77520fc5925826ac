use Rattle.nfs3streams.proofs.JobLemmas.{answers_job}
use Rattle.nfs3streams.proofs.job.keep_output.Goals as goal

pub returns : goal.returns
returns g c = λ new.
    answers_job g.F.Output.Write.contents c.convert-came.result.reads
    (g.F.Files.finished c.args.files.now, g.F.Files.finished c.finish_output-outcome.new.files)
    c.args.job.now c.convert-came.result.came (g.F.Files.name_of c.args.made.place)
    c.finish_output-outcome.result new.1 (c.convert-came.ensures.converts new.0)
    c.convert-came.ensures.stops c.finish_output-outcome.ensures.whole
    c.finish_output-outcome.ensures.stopped
