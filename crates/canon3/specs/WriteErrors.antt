-- What an error of writing says.
use Rattle.std.specs.Prelude.{◌≡◌, ◌⊎◌, ℕ, ◌+◌, ◌-◌, ◌^◌, min, Result, Err}
use Rattle.capture3.specs.declared.fault.Error.{Error}
use Rattle.capture3.specs.declared.fault.Error.TheVariants as errors

-- A write that failed is the last, and counts once, up to the last value; without one, nothing
-- counts.
abbrev pub CountsWriting : {X : Type 0} → ℕ → ℕ → Result X Error → Type 0
CountsWriting old new (Err errors.Write) = new ≡ min (old + 1) (2 ^ 64 - 1)
CountsWriting old new _ = new ≡ old

-- memory ran out, or a write failed
abbrev pub IsOfWriting : Error → Type 0
IsOfWriting error = (error ≡ errors.Memory) ⊎ (error ≡ errors.Write)
