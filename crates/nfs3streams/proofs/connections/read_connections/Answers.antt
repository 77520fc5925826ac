use Rattle.std.proofs.Common.{subst, sym}
use Rattle.nfs3streams.specs.declared.line.asked.Wanted.{Wanted}
use Rattle.nfs3streams.specs.machinery.Converting.{ReadsConnections}
use Rattle.nfs3streams.proofs.ConversionLemmas.{read_by_table, read_by_taker}
use Rattle.nfs3streams.proofs.connections.read_connections.Goals as goal

pub returns-in_ok-end-in-Capture-clause-ok : goal.returns-in_ok-end-in-Capture-clause-ok
returns-in_ok-end-in-Capture-clause-ok g c =
    let was = g.R.Source.observed c.args.source.now in
    let now = g.R.Source.observed c.read_all.new.source in
    let it = c.in_ok-end-in-Capture in
    subst (λ (wanted : Wanted). ReadsConnections (was, now) wanted c.of_taker.result)
    (sym c.in-Capture.is)
    (read_by_taker (was, now) c.new-taker.result c.read_all.new.taker it.end c.of_taker.result
    c.new-taker.ensures it.ensures.ok c.of_taker.ensures.end c.of_taker.ensures.tally
    c.of_taker.ensures.connections)

pub returns-in_ok-end-in-Index-clause-ok : goal.returns-in_ok-end-in-Index-clause-ok
returns-in_ok-end-in-Index-clause-ok g c =
    let was = g.R.Source.observed c.args.source.now in
    let now = g.R.Source.observed c.read_all-in-Index.new.source in
    let it = c.in_ok-end-in-Index in
    let read = c.of_taker-in-Index in
    subst (λ (wanted : Wanted). ReadsConnections (was, now) wanted read.result) (sym c.in-Index.is)
    (read_by_table (was, now) c.new-table.result c.read_all-in-Index.new.taker it.end read.result
    c.new-table.ensures it.ensures.ok read.ensures.end read.ensures.tally read.ensures.connections
    read.ensures.frames)
