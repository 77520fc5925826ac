use Rattle.std.proofs.Common.{◌≡◌, ◌≤◌, ℕ, ◌-◌, List, length}
use Rattle.payload3.specs.Standing.{AreInSoFar, payload_left}
use Rattle.payload3.proofs.parts.next_part.Given as goal

abbrev pub invariant-loop-part : goal.invariant-loop-part
invariant-loop-part l = record {
  same : (file : List ℕ)
      → payload_left file l.runs l.part ≡ payload_left file l.fn.runs l.initial.part;
  within : (file : List ℕ) → AreInSoFar file l.fn.runs l.initial.part
      → AreInSoFar file l.runs l.part;
  stays : l.initial.part.left ≡ 0 → length l.runs ≤ l.initial.part.begun → l.part ≡ l.initial.part;
}

abbrev pub decreases-loop-part : goal.decreases-loop-part
decreases-loop-part l = length l.runs - l.part.begun
