-- What a joiner of records has taken, and what a piece more of bytes comes to.
use Rattle.std.specs.Prelude.{◌≡◌, ◌≤◌, ℕ, List, [], ◌++◌, length, take}
use Rattle.record_mark.specs.Machine.{Run, Runs, Stops, Stopped}
use Rattle.record_mark.specs.RecordMark.{IsRecord, IsTooLong, IsUnfinished}
use Rattle.record_mark.specs.Joining.{Joining, Between, Header, Bytes, Joined, Whole, HasJoined, EndsRecord}

-- the bytes taken have led the machine here; or memory ran out, so that some of them are lost
pub data Taking : Type 0 where
  Led : Run Joining Joined → Taking
  OutOfMemory : Taking

-- What a joiner has taken, and how many bytes of a body fit before its memory has to grow.
pub record JoinerState : Type 0 where
  pub taking : Taking
  pub capacity : ℕ

-- These bytes, and no others, were taken since the start of the record: a record, or what one
-- begins with, or what ends with a header that passes the limit.
abbrev pub HasTaken : Taking → List ℕ → Type 0
HasTaken (Led (Runs s)) bytes = HasJoined bytes s
HasTaken (Led (Stops end)) bytes = EndsRecord bytes end
HasTaken (Led (Stopped end)) bytes = ⊥
HasTaken OutOfMemory bytes = ⊥

-- none was taken
abbrev pub unbegun : Taking
unbegun = Led (Runs Between)

-- the record is whole
abbrev pub IsWhole : Taking → Type 0
IsWhole (Led (Stops (Whole body))) = Unit {0}
IsWhole _ = ⊥

-- it is not whole, and nothing is wrong
abbrev pub IsRunning : Taking → Type 0
IsRunning (Led (Runs s)) = Unit {0}
IsRunning _ = ⊥

-- where the next record starts, once a whole one is let go
abbrev pub released : Taking → Taking
released (Led (Stops (Whole body))) = unbegun
released taking = taking

-- where the machine stands that runs
abbrev pub joining_of : Taking → Joining
joining_of (Led (Runs s)) = s
joining_of _ = Between

-- the bytes of the body where the machine stands
abbrev pub joined_body : Joining → List ℕ
joined_body Between = []
joined_body (Header body part) = body
joined_body (Bytes body last left) = body

-- the bytes of the body so far
abbrev pub body_of : Taking → List ℕ
body_of (Led (Runs s)) = joined_body s
body_of (Led (Stops (Whole body))) = body
body_of _ = []

-- the first n bytes of the piece make the record whole
abbrev pub EndsWithin : List ℕ → List ℕ → ℕ → Type 0
EndsWithin bytes piece n = (n ≤ length piece)
    × ((body : List ℕ) × IsRecord (bytes ++ take n piece) body)

-- all n bytes of the piece do not make it whole
abbrev pub GoesOn : List ℕ → List ℕ → ℕ → Type 0
GoesOn bytes piece n = (n ≡ length piece) × ((body : List ℕ) × IsUnfinished (bytes ++ piece) body)

-- a header that ends in the piece passes the limit, after `at` bytes of the body
abbrev pub PassesWithin : List ℕ → List ℕ → ℕ → Type 0
PassesWithin bytes piece at = (n : ℕ) × (n ≤ length piece) × IsTooLong (bytes ++ take n piece) at
