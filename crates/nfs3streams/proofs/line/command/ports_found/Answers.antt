use Rattle.std.proofs.Common.{codes, ◌∙◌}
use Rattle.clap.specs.Words.{found_of, rows_of}
use Rattle.clap.proofs.WalkLemmas.{raw_values-rows}
use Rattle.nfs3streams.proofs.LineLemmas.{ports_of_none, ports_of_some, usage_of_some}
use Rattle.nfs3streams.proofs.line.command.ports_found.Goals as goal

pub returns-in-Some-clause-ok : goal.returns-in-Some-clause-ok
returns-in-Some-clause-ok c =
    ports_of_some (rows_of (found_of c.args.matches.now)) _ c.ports_named.result
    (c.in-Some.ensures ∙ raw_values-rows (found_of c.args.matches.now) (codes "PORT"))
    c.ports_named.ensures.ok

pub returns-in-Some-clause-err : goal.returns-in-Some-clause-err
returns-in-Some-clause-err c =
    usage_of_some (rows_of (found_of c.args.matches.now)) _ c.ports_named.result
    (c.in-Some.ensures ∙ raw_values-rows (found_of c.args.matches.now) (codes "PORT"))
    c.ports_named.ensures.err

pub returns-in-None-clause-ok : goal.returns-in-None-clause-ok
returns-in-None-clause-ok c =
    ports_of_none (rows_of (found_of c.args.matches.now)) _
    (c.in-None.ensures ∙ raw_values-rows (found_of c.args.matches.now) (codes "PORT"))
    c.new.ensures.items
