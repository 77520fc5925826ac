-- How payloads are parted into those that begin behind all before them, and the others.
use Rattle.std.specs.Prelude.{◌≡◌, ℕ, ◌^◌, ◌⊎◌, List, [], ◌∷◌}
use Rattle.streams3.specs.declared.runs.Run.{Run}
use Rattle.streams3.specs.Repeats.{Has}
use Rattle.streams3.specs.Runs.{Lie, or_else, spot_in, spot_of}
use Rattle.streams3.specs.Runs.{AreSound}

abbrev pub IsOneOf : List Run → Run → Type 0
IsOneOf [] run = ⊥
IsOneOf (one ∷ runs) run = (one ≡ run) ⊎ IsOneOf runs run

pub record AreParted (log ahead late : List Run) : Type 0 where
  pub order : Lie 0 (2 ^ 63) ahead
  pub sound : AreSound late
  pub same : (p : ℕ) → spot_of log p ≡ or_else (spot_of ahead p) (spot_of late p)
  pub in_log : (run : Run) → IsOneOf late run → IsOneOf log run
  pub of_log : (run : Run) → IsOneOf log run
      → IsOneOf late run ⊎ ((p : ℕ) → Has run p → spot_in run p ≡ spot_of log p)
