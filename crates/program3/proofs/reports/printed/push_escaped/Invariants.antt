use Rattle.std.proofs.Common.{◌≡◌, ◌++◌, take}
use Rattle.program3.specs.Printed.{escaped}
use Rattle.program3.proofs.reports.printed.push_escaped.Given as goal

abbrev pub invariant-loop-byte : goal.invariant-loop-byte
invariant-loop-byte l = l.out.items ≡ l.fn.out.items ++ escaped (take l.byte-index l.bytes)
