use Rattle.std.proofs.Common.{ℕ, ◌+◌, ◌-◌, ◌<◌, length}
use Rattle.recording3.specs.Clocks.{HasOptions, Options}
use Rattle.recording3.specs.declared.pcapng.Clock.{Clock}
use Rattle.recording3.proofs.pcapng.clock_of.Given as goal

-- what the options that are left tell is what all tell
abbrev pub invariant-options : goal.invariant-options
invariant-options l =
    ((new : Clock) → ((n : ℕ) × Options l.order l.body n l.at l.clock new)
    → HasOptions l.order l.body new) × (l.at < length l.body + 65600)

abbrev pub decreases-options : goal.decreases-options
decreases-options l = length l.body - l.at
