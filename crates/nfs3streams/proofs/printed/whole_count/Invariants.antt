use Rattle.std.specs.Prelude.{◌≡◌, count_by, take}
use Rattle.nfs3streams.specs.Printed.{is_whole}
use Rattle.nfs3streams.proofs.printed.whole_count.Given as goal

abbrev pub invariant-loop-decision : goal.invariant-loop-decision
invariant-loop-decision l = l.count ≡ count_by is_whole (take l.decision-index l.decisions)
