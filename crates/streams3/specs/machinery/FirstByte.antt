-- The first byte from a position on.
use Rattle.std.specs.Prelude.{◌≡◌, ◌≤◌, ◌<◌, ℕ, List, None, Some}
use Rattle.streams3.specs.declared.runs.Run.{Run}
use Rattle.streams3.specs.declared.segments.Mark.{Mark}
use Rattle.streams3.specs.Runs.{spot_of}

-- the first byte at a position or after it, and its frame
pub record IsFirstByte (runs : List Run) (from : ℕ) (mark : Mark) : Type 0 where
  pub low : from ≤ mark.position
  pub none : (p : ℕ) → from ≤ p → p < mark.position → spot_of runs p ≡ None
  pub frame : (at : ℕ) × (spot_of runs mark.position ≡ Some (at, mark.frame))
