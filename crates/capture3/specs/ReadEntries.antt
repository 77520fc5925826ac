-- What a call of the reader that lends the next entry, with its call as a value, leaves, once the
-- entry is no longer used.
use Rattle.std.specs.Prelude.{◌≡◌, ℕ, ◌<◌, Option, Some, None, Result, Ok, List, IfOk, IsSome}
use Rattle.capture3.specs.Observed.{Observed}
use Rattle.std.specs.declared.hash.BuildHasher as BuildHasher
use Rattle.std.specs.declared.hash.Hasher as Hasher
use Rattle.capture3.specs.declared.reader.entries.Entries.{Entries}
use Rattle.capture3.specs.declared.fault.Error.{Error}
use Rattle.capture3.specs.declared.reader.entry_ref.EntryRef.{EntryRef}
use Rattle.capture3.specs.declared.reader.entry_ref.EntryRef.TheVariants.{End}
use Rattle.capture3.specs.Entry.{Entry}
use Rattle.capture3.specs.Entries.{IsOver, KeepsErrors, UsesSource}
use Rattle.capture3.specs.Handing.{HandsOutGiven}
use Rattle.capture3.specs.ReadAs.{IsReadAs}
use Rattle.capture3.specs.machinery.EntriesHistory.{entries_left, StandsFor}

module _ {R S H : Type 0} {builds : BuildHasher.Ghosts S H} {hashes : Hasher.Ghosts H} where
  -- what a call leaves of a reader, for each history for which it stood, and what it lent of it
  pub record ReadsNext (observed : R → Observed) (failures : R → ℕ)
      (old : Entries R S H builds hashes)
      (result : Result (Option EntryRef) Error) (new : Entries R S H builds hashes) : Type 0 where
    pub answers : (given : List ℕ) (handed : List Entry) → StandsFor observed old given handed
        → HandsOutGiven observed (λ before. IsReadAs) old new given handed result
    pub end : result ≡ Ok (Some End) → IsOver new
    pub over : IsOver old → (result ≡ Ok None) × (new ≡ old)
    pub fewer : IfOk result (λ next. IsSome next → entries_left new < entries_left old)
    pub errors : KeepsErrors old new result
    pub device : UsesSource failures old new result
