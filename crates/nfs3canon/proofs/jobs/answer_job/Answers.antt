use Rattle.nfs3canon.proofs.jobs.answer_job.Goals as goal

pub returns-in-None : goal.returns-in-None
returns-in-None g c words asks = rw c.in-None.is (c.answer_without_hashers.ensures words asks)
