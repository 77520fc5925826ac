use Rattle.line3.proofs.Common.{◌≡◌, map, string_bytes, without_end}
use Rattle.line3.proofs.command.take_end.Given as goal

abbrev pub invariant-loop-place : goal.invariant-loop-place
invariant-loop-place l = (l.words ≡ l.fn.words)
    × (without_end l.place (map string_bytes l.words.items)
    ≡ without_end l.first (map string_bytes l.words.items))
