-- Where a recording has the bytes of a stream.
use Rattle.std.specs.Prelude.{◌≡◌, ◌≤◌, ◌<◌, ℕ, ◌+◌, ◌-◌, ◌^◌, Bool, cond, ◌&&◌, nat_le, nat_lt, max, List, [], ◌∷◌, Option, None, Some}
use Rattle.streams3.specs.declared.runs.Run.{Run}

-- a run has the byte at a position
abbrev pub has : Run → (p : ℕ) → Bool
has run p = nat_le run.position p && nat_lt p (run.position + run.size)

-- where it lies: the offset in the recording's file, and the frame
abbrev pub spot_in : Run → (p : ℕ) → Option (ℕ × ℕ)
spot_in run p = cond (has run p) (Some (run.at + (p - run.position), run.frame)) None

abbrev pub or_else : Option (ℕ × ℕ) → Option (ℕ × ℕ) → Option (ℕ × ℕ)
or_else None other = other
or_else (Some spot) other = Some spot

-- where the first of the runs that has the byte has it
abbrev pub spot_of : List Run → (p : ℕ) → Option (ℕ × ℕ)
spot_of [] p = None
spot_of (run ∷ runs) p = or_else (spot_in run p) (spot_of runs p)

-- the position after the last byte; while there is none, that of the first
abbrev pub top_of : List Run → ℕ
top_of [] = 2 ^ 30
top_of (run ∷ runs) = max (run.position + run.size) (top_of runs)

-- a run has bytes, in a file that is not too long
abbrev pub HasBytes : Run → Type 0
HasBytes run = (0 < run.size) × (run.at + run.size < 2 ^ 64)

-- the runs lie between two positions, one after another, and none is empty
abbrev pub Lie : (low high : ℕ) → List Run → Type 0
Lie low high [] = low ≤ high
Lie low high (run ∷ runs) =
    (low ≤ run.position) × (HasBytes run × Lie (run.position + run.size) high runs)

-- The runs are in order. Each byte lies where the first payload that has it has it, and what no
-- payload has is in none.
pub record AreInOrder (log runs : List Run) : Type 0 where
  pub order : Lie 0 (2 ^ 63) runs
  pub same : (p : ℕ) → spot_of runs p ≡ spot_of log p

-- the runs have bytes, in a stream and a file that are not too long
abbrev pub AreSound : List Run → Type 0
AreSound [] = Unit {0}
AreSound (run ∷ runs) = (HasBytes run × (run.position + run.size ≤ 2 ^ 63)) × AreSound runs
