-- The bytes of a stream, from a recording's file.
use Rattle.std.specs.Prelude.{◌≡◌, ◌≤◌, ◌<◌, ℕ, ◌+◌, ◌-◌, List, [], ◌∷◌, ◌++◌, Some, length, take, drop, slice_index}
use Rattle.streams3.specs.declared.runs.Run.{Run}
use Rattle.streams3.specs.Runs.{spot_of}

-- the bytes of runs, one after another
abbrev pub content_of : (file : List ℕ) → List Run → List ℕ
content_of file [] = []
content_of file (run ∷ runs) = take run.size (drop run.at file) ++ content_of file runs

-- the runs lie in a file; one without bytes may lie anywhere
abbrev pub AreIn : (file : List ℕ) → List Run → Type 0
AreIn file [] = Unit {0}
AreIn file (run ∷ runs) = (0 < run.size → run.at + run.size ≤ length file) × AreIn file runs

-- The bytes of a stream from one position up to another: each is that of the file where the first
-- payload that has it has it.
pub record AreStreamBytes (file : List ℕ) (log : List Run) (from to : ℕ) (bytes : List ℕ)
    : Type 0 where
  pub count : length bytes ≡ to - from
  pub same : (p : ℕ) → from ≤ p → p < to → (at : ℕ) × (frame : ℕ)
      × (spot_of log p ≡ Some (at, frame)) × (slice_index bytes (p - from) ≡ slice_index file at)
