-- What reads of sources gave, and the two sources of a pair, before a call that adds it and after
-- the call.
use Rattle.std.specs.Prelude.{◌≡◌, ◌⊎◌, ◌<◌, ℕ, List, Result, length}
use Rattle.capture3.specs.declared.fault.Error.{Error}
use Rattle.capture3.specs.Entries.{CountsReading}
use Rattle.capture3.specs.Observed.{Gave, Observed}

-- fewer bytes than this were given
abbrev pub GaveFewer : (old new : Observed) → ℕ → Type 0
GaveFewer old new n = (bytes : List ℕ) × Gave old new bytes × (length bytes < n)

-- what is observed of them
pub record Sources : Type 0 where
  pub client_before : Observed
  pub client_after : Observed
  pub server_before : Observed
  pub server_after : Observed

-- A read that failed is the last, and counts once for its source; without one, nothing counts.
abbrev pub CountsReadings : {X : Type 0} (old_client client old_server server : ℕ) → Result X Error
    → Type 0
CountsReadings old_client client old_server server result =
    (CountsReading old_client client result × (server ≡ old_server))
    ⊎ ((client ≡ old_client) × CountsReading old_server server result)
