use Rattle.nfs3streams.proofs.printed.counts.Goals as goal

pub returns : goal.returns
returns c =
    rw (← c.in_ok-below.ensures, ← c.in_ok-inside.ensures, ← c.whole_count-packed.ensures)
    c.format.ensures.ok
