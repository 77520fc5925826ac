use Rattle.std.specs.Prelude.{◌≡◌, false, take}
use Rattle.std.specs.List.{list_any}
use Rattle.nfs3streams.specs.Printed.{is_flawed}
use Rattle.nfs3streams.proofs.printed.has_flaw.Given as goal

abbrev pub invariant-loop-decision : goal.invariant-loop-decision
invariant-loop-decision l = list_any is_flawed (take l.decision-index l.decisions) ≡ false
