use Rattle.nfs3streams.proofs.CaptureLemmas.{reads_nothing}
use Rattle.nfs3streams.proofs.output.write_into.Goals as goal

pub returns-in-Index-clause-read : goal.returns-in-Index-clause-read
returns-in-Index-clause-read g c =
    reads_nothing c.args.recorded.now.failures c.index_into.result.0 c.index_into.ensures.error
