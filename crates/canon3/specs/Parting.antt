-- The first place at which two captures part.
use Rattle.std.specs.Prelude.{ℕ, ◌+◌, ◌<◌, List, Option, Some, take, slice_get}
use Rattle.capture3.specs.Entry.{Entry, Begin, Call, Reply, End}
use Rattle.capture3.specs.Laws.{begins}
pub use Rattle.capture3.specs.Progress.{records_after}
use Rattle.capture3.specs.declared.fault.Side.{Side}
use Rattle.capture3.specs.declared.fault.Side.TheVariants.{Client, Server}
use Rattle.capture3.specs.declared.fault.Place.{Place}
use Rattle.capture3.specs.declared.fault.Place.TheVariants as places
use Rattle.canon3.specs.Renaming.{Same}

-- the connections that have begun
abbrev pub connections : List Entry → ℕ
connections entries = begins entries

-- the entry is a message of that side: a call of the client, a reply of the server
abbrev pub IsMessageOf : Side → Option Entry → Type 0
IsMessageOf Client (Some (Call items)) = Unit {0}
IsMessageOf Server (Some (Reply id items)) = Unit {0}
IsMessageOf _ _ = ⊥

-- the next record of the open stream
abbrev pub next_record : Side → List Entry → Place
next_record side before = places.Record (connections before) side (1 + records_after 0 before) 0

-- the next connection, before its records
abbrev pub next_connection : List Entry → Place
next_connection before = places.Record (1 + connections before) Client 0 0

-- where two entries differ, or where one list has none, after these entries
pub data IsPlaceOf (before : List Entry) : Option Entry → Option Entry → Place → Type 0 where
  first_message : {e f : Option Entry} (side : Side) → IsMessageOf side e
      → IsPlaceOf before e f (next_record side before)
  second_message : {e f : Option Entry} (side : Side) → IsMessageOf side f
      → IsPlaceOf before e f (next_record side before)
  first_ends : IsPlaceOf before (Some End) (Some Begin) (next_connection before)
  second_ends : IsPlaceOf before (Some Begin) (Some End) (next_connection before)

-- i is the least number for which the first i + 1 entries are not the same
pub record PartsAt (a b : List Entry) (i : ℕ) : Type 0 where
  pub differ : Same (take (i + 1) a) (take (i + 1) b) → ⊥
  pub same_before : (j : ℕ) → j < i → Same (take (j + 1) a) (take (j + 1) b)

-- the place of the first entry with which two captures are not the same
abbrev pub Parting : List Entry → List Entry → Place → Type 0
Parting a b place = (i : ℕ) × PartsAt a b i
    × IsPlaceOf (take i a) (slice_get a i) (slice_get b i) place
