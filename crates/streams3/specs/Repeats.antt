-- Bytes that were recorded again.
use Rattle.std.specs.Prelude.{◌≡◌, ◌≢◌, ◌≤◌, ◌<◌, ℕ, ◌+◌, ◌⊎◌, List, [], ◌∷◌}
use Rattle.std.specs.List.{All}
use Rattle.streams3.specs.declared.runs.Run.{Run}
use Rattle.streams3.specs.declared.runs.Pair.{Pair}
use Rattle.streams3.specs.Runs.{spot_in, spot_of}

-- a run has the byte at a position
abbrev pub Has : Run → (p : ℕ) → Type 0
Has run p = (run.position ≤ p) × (p < run.position + run.size)

-- one of the payloads has the same bytes there
abbrev pub IsPartOf : List Run → Run → Type 0
IsPartOf [] part = ⊥
IsPartOf (run ∷ runs) part =
    ((p : ℕ) → Has part p → spot_in run p ≡ spot_in part p) ⊎ IsPartOf runs part

-- The same positions: the first are bytes as the stream has them, the others are part of a payload,
-- and lie elsewhere.
pub record IsRepeat (log : List Run) (pair : Pair) : Type 0 where
  pub some : 0 < pair.again.size
  pub position : pair.first.position ≡ pair.again.position
  pub size : pair.first.size ≡ pair.again.size
  pub first : (p : ℕ) → Has pair.first p → spot_of log p ≡ spot_in pair.first p
  pub again : IsPartOf log pair.again
  pub elsewhere : (p : ℕ) → Has pair.first p → spot_in pair.again p ≢ spot_in pair.first p

-- one of the pairs has that byte of a payload
abbrev pub IsPaired : List Pair → Run → (p : ℕ) → Type 0
IsPaired [] run p = ⊥
IsPaired (pair ∷ pairs) run p = (spot_in pair.again p ≡ spot_in run p) ⊎ IsPaired pairs run p

-- the pairs are all bytes of payloads that lie elsewhere than the first of the same position, and
-- nothing else
pub record AreRepeats (log : List Run) (pairs : List Pair) : Type 0 where
  pub only : All (IsRepeat log) pairs
  pub all : All (λ run. (p : ℕ) → Has run p → spot_in run p ≢ spot_of log p → IsPaired pairs run p)
      log
