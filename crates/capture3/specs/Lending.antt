-- What a call of the reader that checks the next entry and lends it leaves, once the entry is no
-- longer used.
use Rattle.std.specs.Prelude.{◌≡◌, ℕ, ◌<◌, Option, Some, None, Result, Ok, List, [], IfOk, IsSome}
use Rattle.std.specs.Borrow.{RattleType}
use mir.Syntax.{named}
use Rattle.capture3.specs.Observed.{Observed}
use Rattle.xdr3.specs.Item.{Item}
use Rattle.std.specs.declared.hash.BuildHasher as BuildHasher
use Rattle.std.specs.declared.hash.Hasher as Hasher
use Rattle.capture3.specs.declared.reader.entries.Entries.{Entries}
use Rattle.capture3.specs.contracts.reader.entries.Entries.{the_row}
use Rattle.capture3.specs.declared.reader.entry.LentEntry.{LentEntry}
use Rattle.capture3.specs.declared.reader.entry.LentEntry.TheVariants.{End}
use Rattle.capture3.specs.declared.fault.Error.{Error}
use Rattle.capture3.specs.Entry.{Entry}
use Rattle.capture3.specs.Numbering.{IsLentAfter}
use Rattle.capture3.specs.Entries.{IsOver, KeepsErrors, UsesSource}
use Rattle.capture3.specs.Handing.{HandsOutGiven}
use Rattle.capture3.specs.MessageVisit.{Hears}
use Rattle.capture3.specs.machinery.EntriesHistory.{entries_left, StandsFor}

-- the entry is lent with its number, and the visitor was passed it
abbrev pub IsNextLent : {V : Type 0} → (rests stands : V → List Item → Type 0) → (was now : V)
    → (handed : List Entry) → LentEntry → Entry → Type 0
IsNextLent rests stands was now handed lent entry =
    IsLentAfter handed lent entry × Hears rests stands was now entry

module _ {R S H : Type 0} {builds : BuildHasher.Ghosts S H} {hashes : Hasher.Ghosts H} where
  -- what a call leaves of a reader, for each history for which it stood, and what it lent of it
  pub record LendsNext (observed : R → Observed) (failures : R → ℕ)
      (Is : List Entry → LentEntry → Entry → Type 0) (old : Entries R S H builds hashes)
      (result : Result (Option LentEntry) Error) (new : Entries R S H builds hashes) : Type 0 where
    pub answers : (given : List ℕ) (handed : List Entry) → StandsFor observed old given handed
        → HandsOutGiven observed Is old new given handed result
    pub end : result ≡ Ok (Some End) → IsOver new
    pub over : IsOver old → (result ≡ Ok None) × (new ≡ old)
    pub fewer : IfOk result (λ next. IsSome next → entries_left new < entries_left old)
    pub errors : KeepsErrors old new result
    pub device : UsesSource failures old new result

-- the type of a reader, as clauses name it of a reader that is lent
abbrev pub entries_row : (R S H : RattleType) → BuildHasher.Ghosts S.Denot H.Denot
    → Hasher.Ghosts H.Denot → RattleType
entries_row R S H builds hashes = the_row (record { mir = named 0; lft = [] }) R S H builds hashes
