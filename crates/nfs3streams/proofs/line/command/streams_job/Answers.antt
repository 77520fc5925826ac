use Rattle.std.proofs.Common.{map, string_bytes}
use Rattle.clap.specs.Words.{app_of, found_of, rows_of}
use Rattle.nfs3streams.proofs.LineLemmas.{asks_for, found_by, refused_by, refused_for}
use Rattle.nfs3streams.proofs.line.command.streams_job.Goals as goal

pub returns-in-Ok-try_matches-clause-asked : goal.returns-in-Ok-try_matches-clause-asked
returns-in-Ok-try_matches-clause-asked c =
    let words = map string_bytes c.args.words.now in
    let it = c.in-Ok-try_matches in
    asks_for words (rows_of (found_of it.matches)) c.job_found.result
    (found_by (app_of c.in-Ok.command) words it.matches c.in-Ok.ensures it.ensures.found)
    c.job_found.ensures.asked

pub returns-in-Ok-try_matches-clause-refused : goal.returns-in-Ok-try_matches-clause-refused
returns-in-Ok-try_matches-clause-refused c =
    let words = map string_bytes c.args.words.now in
    let it = c.in-Ok-try_matches in
    refused_for words (rows_of (found_of it.matches)) c.job_found.result
    (found_by (app_of c.in-Ok.command) words it.matches c.in-Ok.ensures it.ensures.found)
    c.job_found.ensures.refused

pub returns-in-Err-try_matches-clause-refused : goal.returns-in-Err-try_matches-clause-refused
returns-in-Err-try_matches-clause-refused c =
    refused_by (app_of c.in-Ok.command) (map string_bytes c.args.words.now)
    c.in-Err-try_matches.fault c.in-Ok.ensures c.in-Err-try_matches.ensures.refused
