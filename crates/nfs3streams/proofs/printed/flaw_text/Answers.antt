use Rattle.nfs3streams.proofs.printed.flaw_text.Goals as goal

pub returns-in-Missing : goal.returns-in-Missing
returns-in-Missing c =
    rw (c.in-Missing.is, ← c.saturating_sub-size.ensures, ← c.saturating_sub-before.ensures)
    c.format.ensures.ok

pub returns-in-Beyond : goal.returns-in-Beyond
returns-in-Beyond c =
    rw (c.in-Beyond.is, ← c.saturating_sub-before-in-Beyond.ensures) c.format-in-Beyond.ensures.ok

pub returns-in-Changed : goal.returns-in-Changed
returns-in-Changed c =
    rw (c.in-Changed.is, ← c.saturating_sub-before-in-Changed.ensures)
    c.format-in-Changed.ensures.ok
