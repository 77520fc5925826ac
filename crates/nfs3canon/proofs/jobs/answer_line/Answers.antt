use Rattle.std.proofs.Common.{inl, map, string_bytes}
use Rattle.nfs3canon.proofs.jobs.answer_line.Goals as goal

pub returns-in-Ok : goal.returns-in-Ok
returns-in-Ok g c =
    let line = map string_bytes c.args.words.items in
    let asked = c.in-Ok.ensures.asked in
    record {
      answers =
          inl (c.in-Ok.job, asked, c.in-Ok.ensures.accepted, c.answer_job.ensures line asked);
    }
