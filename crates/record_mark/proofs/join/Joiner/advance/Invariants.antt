use Rattle.std.proofs.Common.{◌≡◌, ◌≤◌, ◌<◌, ◌+◌, ◌-◌, length, take, vec_capacity, vec_len}
use Rattle.record_mark.proofs.Common.{IsRunning, led_on}
use Rattle.record_mark.specs.Joiner.{taking_of, IsSound}
use Rattle.record_mark.proofs.join.Joiner.advance.Given as goal

abbrev pub invariant-loop-self : goal.invariant-loop-self
invariant-loop-self l = record {
  within : l.taken ≤ length l.piece;
  sound : IsSound l.self-inside;
  led : taking_of l.self-inside ≡ led_on (taking_of l.initial.self-inside) (take l.taken l.piece);
  moved : 0 < l.taken → IsRunning (taking_of l.initial.self-inside);
  room : vec_capacity l.initial.self-inside.body ≤ vec_capacity l.self-inside.body;
  grown : vec_len l.self-inside.body ≤ vec_len l.initial.self-inside.body + l.taken;
}

abbrev pub decreases-loop-self : goal.decreases-loop-self
decreases-loop-self l = length l.piece - l.taken
