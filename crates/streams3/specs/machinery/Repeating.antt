-- How the bytes that were recorded again are found.
use Rattle.std.specs.Prelude.{◌≡◌, ◌≢◌, ◌<◌, ℕ, ◌⊎◌, List, [], ◌∷◌, ◌++◌, None}
use Rattle.std.specs.List.{All}
use Rattle.streams3.specs.declared.runs.Pair.{Pair}
use Rattle.streams3.specs.declared.runs.Run.{Run}
use Rattle.streams3.specs.Repeats.{Has, IsPaired}
use Rattle.streams3.specs.Runs.{spot_in, spot_of}
use Rattle.streams3.specs.machinery.Parting.{IsOneOf}

abbrev pub AddsRepeat : (first again : Run) → (before after : List Pair) → Type 0
AddsRepeat first again before after =
    ((first ≡ again) × (after ≡ before))
    ⊎ ((first ≢ again) × (after ≡ before ++ record { first = first; again = again } ∷ []))

-- as IsRepeat, of runs in order and one payload
pub record Repeats (runs : List Run) (run : Run) (pair : Pair) : Type 0 where
  pub some : 0 < pair.again.size
  pub position : pair.first.position ≡ pair.again.position
  pub size : pair.first.size ≡ pair.again.size
  pub first : (p : ℕ) → Has pair.first p → spot_of runs p ≡ spot_in pair.first p
  pub again : (p : ℕ) → Has pair.again p → spot_in run p ≡ spot_in pair.again p
  pub elsewhere : (p : ℕ) → Has pair.first p → spot_in pair.again p ≢ spot_in pair.first p

-- the pairs of one payload follow others
pub record AddsRepeats (runs : List Run) (run : Run) (before after : List Pair) : Type 0 where
  pub more : List Pair
  pub is : after ≡ before ++ more
  pub only : All (Repeats runs run) more
  pub all : (p : ℕ) → Has run p → spot_of runs p ≢ None → spot_in run p ≢ spot_of runs p
      → IsPaired more run p

-- as AreRepeats, of runs in order and some payloads
pub record AreAgain (payloads runs : List Run) (pairs : List Pair) : Type 0 where
  pub only : All (λ pair. (run : Run) × IsOneOf payloads run × Repeats runs run pair) pairs
  pub all : (run : Run) → IsOneOf payloads run → (p : ℕ) → Has run p → spot_of runs p ≢ None
      → spot_in run p ≢ spot_of runs p → IsPaired pairs run p
