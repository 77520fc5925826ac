use Rattle.std.proofs.Common.{ℕ, List, subst}
use Rattle.nfs3streams.specs.machinery.Converting.{DecidesOn}
use Rattle.nfs3streams.proofs.ConversionLemmas.{converts, stops_read}
use Rattle.nfs3streams.proofs.conversion.convert_read.Goals as goal

pub returns-in-Err-clause-stops : goal.returns-in-Err-clause-stops
returns-in-Err-clause-stops g c =
    let observed = g.R.Source.observed in
    let failures = g.R.Source.failures in
    let was = c.args.source.now in
    let now = c.read_connections.new.source in
    let others = c.args.recorded.now.failures in
    stops_read (observed was) (observed now) (failures was, failures now) (others, others)
    c.in-Err.outcome c.in-Err.ensures.err

pub returns-in-Ok-write_wanted-clause-converts : goal.returns-in-Ok-write_wanted-clause-converts
returns-in-Ok-write_wanted-clause-converts g c = λ empty.
    let observed = g.R.Source.observed in
    converts (observed c.args.source.now) (observed c.read_connections.new.source) c.args.job.now
    c.in-Ok.read c.decide.new.recorded.readings c.write_wanted.new.recorded.readings
    c.in-Ok-decide.decided (g.W.Write.contents c.in-Ok-write_wanted.output) c.in-Ok.ensures.ok
    (subst
    (λ (l : List ℕ). DecidesOn c.in-Ok.read l c.decide.new.recorded.readings
    c.in-Ok-decide.decided) c.deref.ensures.value c.in-Ok-decide.ensures.decides)
    c.in-Ok-write_wanted.ensures.more
    (c.in-Ok-write_wanted.ensures.written empty)
