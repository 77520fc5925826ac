-- How bytes lead a joiner on.
use Rattle.std.specs.Prelude.{◌≡◌, ◌<◌, ◌≤◌, ℕ, List, length, take}
use Rattle.record_mark.specs.Machine.{after}
use Rattle.record_mark.specs.Joining.{join_next}
use Rattle.record_mark.specs.Taking.{Taking, Led, OutOfMemory}
use Rattle.record_mark.specs.Stage.{taking_at, IsSoundAt}
use Rattle.record_mark.specs.declared.join.Stage.{Stage}

-- bytes more
abbrev pub led_on : Taking → List ℕ → Taking
led_on (Led run) bytes = Led (after join_next run bytes)
led_on OutOfMemory bytes = OutOfMemory

-- some of the bytes were taken, and led from there to this stage, with this body
pub record TakesBytes (before : Taking) (bytes body : List ℕ) (taken : Stage × ℕ) : Type 0 where
  pub some : 0 < taken.1
  pub within : taken.1 ≤ length bytes
  pub state : taking_at taken.0 body ≡ led_on before (take taken.1 bytes)
  pub sound : IsSoundAt taken.0 body
