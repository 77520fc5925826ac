use Rattle.nfs3mask.proofs.Common.{map, string_bytes, take, AreChanges}
use Rattle.nfs3mask.proofs.line.change.changed_ways.Given as goal

abbrev pub invariant-loop-word : goal.invariant-loop-word
invariant-loop-word l = AreChanges (map string_bytes (take l.word-index l.words)) l.ways
