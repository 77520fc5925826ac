use Rattle.std.specs.Prelude.{map, take}
use Rattle.nfs3streams.specs.Ports.{AreAllPorts}
use Rattle.nfs3streams.proofs.line.ports.ports_named.Given as goal

abbrev pub invariant-loop-word : goal.invariant-loop-word
invariant-loop-word l = AreAllPorts (map (λ s. s.now) (take l.word-index l.words)) l.ports.items
