use Rattle.std.proofs.Common.{◌≤◌, ◌-◌, ℕ, length}
use Rattle.recording3.specs.Link.{HasLabels, NoLabels}
use Rattle.recording3.proofs.link.past_labels.Given as goal

abbrev pub invariant-labels : goal.invariant-labels
invariant-labels l =
    (l.at ≤ length l.frame)
    × ((end : ℕ) → HasLabels l.frame l.at end → HasLabels l.frame l.fn.first end)
    × (NoLabels l.frame l.at → NoLabels l.frame l.fn.first)

abbrev pub decreases-labels : goal.decreases-labels
decreases-labels l = length l.frame - l.at
