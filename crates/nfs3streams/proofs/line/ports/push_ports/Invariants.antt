use Rattle.std.proofs.Common.{◌≡◌, ◌++◌, ℕ, List, length}
use denote.Text.{Utf8}
use denote.Shadow.{shadow}
use Rattle.nfs3streams.proofs.PortsLemmas.{Named}
use Rattle.nfs3streams.proofs.line.ports.push_ports.Given as goal

abbrev pub invariant-loop-first : goal.invariant-loop-first
invariant-loop-first l = shadow (Utf8 l.rest)
    × ((named : List ℕ) × Named l.word l.rest named
    × (l.ports.items ≡ l.fn.ports.items ++ named))

abbrev pub decreases-loop-first : goal.decreases-loop-first
decreases-loop-first l = length l.rest
