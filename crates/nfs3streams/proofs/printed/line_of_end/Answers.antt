use Rattle.nfs3streams.proofs.printed.line_of_end.Goals as goal

pub returns : goal.returns
returns c = rw (← c.ending_name-reason.ensures) c.format.ensures.ok
