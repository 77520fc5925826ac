-- What `Joiner::push` makes of a piece of a stream.
use Rattle.std.specs.Prelude.{◌≡◌, ◌≢◌, ◌≤◌, ◌<◌, ◌↔◌, ℕ, List, [], ◌++◌, length, take, Result, Ok, Err, IfOk}
use Rattle.record_mark.specs.Machine.{Runs, Stops, after}
use Rattle.record_mark.specs.Joining.{Whole, TooLong, join_next}
use Rattle.record_mark.specs.Taking.{Taking, Led, OutOfMemory, HasTaken, IsWhole, IsRunning, joining_of, body_of, EndsWithin, GoesOn, PassesWithin}
use Rattle.record_mark.specs.declared.join.Step.{Step}
use Rattle.record_mark.specs.declared.join.Step.TheVariants.{Record, More}
use Rattle.record_mark.specs.declared.join.JoinError.{JoinError}
use Rattle.record_mark.specs.declared.join.JoinError.TheVariants as error

-- For all bytes taken before: what was taken with them, and what each result means. Unless memory
-- runs out, a result comes exactly if what it means holds.
pub record PushesHistory (old new : Taking) (piece : List ℕ)
    (result : Result (ℕ × Step) JoinError) : Type 0 where
  -- the bytes taken follow those taken before
  pub taken : (bytes : List ℕ) → HasTaken old bytes
      → IfOk result (λ r. HasTaken new (bytes ++ take r.0 piece))
  -- the record is whole
  pub whole : (bytes : List ℕ) (n : ℕ) → HasTaken old bytes → result ≢ Err error.Memory
      → (result ≡ Ok (n, Record)) ↔ EndsWithin bytes piece n
  -- the piece is used up, and the record is not whole
  pub more : (bytes : List ℕ) (n : ℕ) → HasTaken old bytes → result ≢ Err error.Memory
      → (result ≡ Ok (n, More)) ↔ GoesOn bytes piece n
  -- a header passes the limit
  pub too_long : (bytes : List ℕ) (at : ℕ) → HasTaken old bytes → result ≢ Err error.Memory
      → (result ≡ Err (error.TooLong at)) ↔ PassesWithin bytes piece at

-- By the machine that joins fragments: where the bytes taken lead it.
pub record PushesMachine (old new : Taking) (piece : List ℕ)
    (result : Result (ℕ × Step) JoinError) : Type 0 where
  -- it runs along them, or it stops at the last of them, with the record or the fault
  pub runs : IsRunning old → IfOk result (λ r. r.1 ≡ More
      → after join_next (Runs (joining_of old)) (take r.0 piece) ≡ Runs (joining_of new))
  pub stops : IsRunning old → IfOk result (λ r. r.1 ≡ Record
      → after join_next (Runs (joining_of old)) (take r.0 piece) ≡ Stops (Whole (body_of new)))
  pub refuses : (at : ℕ) → IsRunning old → result ≡ Err (error.TooLong at)
      → (n : ℕ) × (n ≤ length piece)
      × (after join_next (Runs (joining_of old)) (take n piece) ≡ Stops (TooLong at))
  -- each result leaves what it says
  pub whole : IfOk result (λ r. r.1 ≡ Record ↔ IsWhole new)
  pub running : IfOk result (λ r. r.1 ≡ More ↔ IsRunning new)
  pub refused : (at : ℕ) → result ≡ Err (error.TooLong at) → new ≡ Led (Stops (TooLong at))
  pub memory : result ≡ Err error.Memory → new ≡ OutOfMemory
  -- it runs to the end of the piece, and some byte is taken if there is one
  pub used_up : IfOk result (λ r. r.1 ≡ More → r.0 ≡ length piece)
  pub moves : IsRunning old → 0 < length piece → IfOk result (λ r. 0 < r.0)

-- What stands stays, and the same is returned again: a whole record, a fault, memory that ran out,
-- and before an empty piece all else.
pub record StaysPut (old new : Taking) (piece : List ℕ)
    (result : Result (ℕ × Step) JoinError) : Type 0 where
  pub whole : IsWhole old → (result ≡ Ok (0, Record)) × (new ≡ old)
  pub refused : (at : ℕ) → old ≡ Led (Stops (TooLong at))
      → (result ≡ Err (error.TooLong at)) × (new ≡ old)
  pub starved : old ≡ OutOfMemory → (result ≡ Err error.Memory) × (new ≡ old)
  pub empty : IsRunning old → piece ≡ [] → (result ≡ Ok (0, More)) × (new ≡ old)
