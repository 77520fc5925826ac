-- The histories for which a reader of entries stands: what its source gave it, and what it handed
-- out.
use Rattle.std.specs.Prelude.{◌≡◌, ℕ, ◌+◌, ◌≤◌, Option, Some, None, Result, Ok, Err, List, [], ◌∷◌, ◌++◌, length, slice_range, ◌<◌, Bool, true, false, IsTrue, IsFalse, IsSome, IfOk, OnErr}
use Rattle.capture3.specs.Observed.{Observed, Gave, IsSpent}
use Rattle.xdr3.specs.Item.{AreBytes}
use Rattle.std.specs.declared.hash.BuildHasher as BuildHasher
use Rattle.std.specs.declared.hash.Hasher as Hasher
use Rattle.capture3.specs.declared.reader.entries.Entries.{Entries}
use Rattle.capture3.specs.declared.reader.entries.ReaderStage.{ReaderStage}
use Rattle.capture3.specs.declared.reader.entries.ReaderStage.TheVariants.{Reading, Over, Failed}
use Rattle.capture3.specs.declared.reader.entry.Kind.{Kind}
use Rattle.capture3.specs.declared.reader.entry.Kind.TheVariants as kinds
use Rattle.capture3.specs.declared.fault.Error.{Error}
use Rattle.capture3.specs.declared.fault.Noted.{Noted}
use Rattle.capture3.specs.declared.container.Container.{Container}
use Rattle.capture3.specs.machinery.Container.{room_in}
use Rattle.capture3.specs.machinery.CountedCalls.{known_of}
use Rattle.capture3.specs.Entry.{Entry}
use Rattle.capture3.specs.machinery.Pairing.{HasCome, HasNumber, IsHeld}
use Rattle.capture3.specs.OpenXids.{open_xids}
use Rattle.capture3.specs.Laws.{most_entries}
use Rattle.capture3.specs.Progress.{AreCounted, calls_in, replies_in}
use Rattle.capture3.specs.Typed.{Typed}
use Rattle.capture3.specs.Entries.{block_size, CountsReads, failure_of, IsMetBy, IsOver, KeepsErrors, KeepsLimits, last_of, loan_of, source_of, UsesSource}

-- how many entries there can be from here on
abbrev pub entries_left_in : ReaderStage → Container → ℕ
entries_left_in Reading container = room_in container + 1
entries_left_in _ container = 0

module _ {R S H : Type 0} {builds : BuildHasher.Ghosts S H} {hashes : Hasher.Ghosts H} where
  abbrev pub entries_left : Entries R S H builds hashes → ℕ
  entries_left entries = entries_left_in entries.stage entries.pairing.container

  -- the record and the number of the last entry stand
  abbrev pub HoldsLast : Entries R S H builds hashes → List Entry → Type 0
  HoldsLast entries handed = (front : List Entry) (entry : Entry) → handed ≡ front ++ entry ∷ []
      → (kind : Kind) → last_of entries ≡ Some kind
      → IsHeld kind entries.pairing.container.joiner.taking entry
      × HasNumber entries.pairing.number (open_xids [] (front ++ entry ∷ [])) entry

  -- the bytes of the block that are not judged yet
  abbrev pub unjudged : Entries R S H builds hashes → List ℕ
  unjudged entries = slice_range entries.block.items entries.start entries.end

  -- the calls and the replies that were handed out
  abbrev pub CountedMessages : Entries R S H builds hashes → List Entry → Type 0
  CountedMessages entries handed = (entries.pairing.calls_taken ≡ calls_in handed)
      × (entries.pairing.replies_taken ≡ replies_in handed)

  -- the machine for a capture file stands after the bytes judged, and has emitted what was handed
  -- out
  pub record IsReading (entries : Entries R S H builds hashes) (given : List ℕ)
      (handed : List Entry) : Type 0 where
    pub judged : List ℕ
    pub split : given ≡ judged ++ unjudged entries
    pub counted : entries.judged ≡ length judged
    pub machine : HasCome entries.pairing.container (known_of entries.pairing.calls) judged
        handed
    pub messages : CountedMessages entries handed

  abbrev pub StandsIn : ReaderStage → Observed → Entries R S H builds hashes → List ℕ → List Entry
      → Type 0
  StandsIn Reading observed entries given handed = IsReading entries given handed
  StandsIn Over observed entries given handed = Typed given handed × IsSpent observed
      × AreCounted entries.pairing.container.position.connections
      entries.pairing.container.position.records handed × CountedMessages entries handed
  StandsIn Failed observed entries given handed =
      IsMetBy entries.pairing.error observed given handed

  -- the source gave these bytes since the reader was new, and the reader handed out these entries
  pub record StandsFor (observed : R → Observed) (entries : Entries R S H builds hashes)
      (given : List ℕ)
      (handed : List Entry) : Type 0 where
    pub bytes : AreBytes given
    pub few : length handed + entries_left entries ≤ most_entries
    pub limits : KeepsLimits entries given handed
    pub holds : HoldsLast entries handed
    pub here : StandsIn entries.stage (observed entries.source.now) entries given handed

  -- the source gave more bytes
  pub record HasRead (observed : R → Observed) (old new : Entries R S H builds hashes)
      (given : List ℕ)
      (handed : List Entry) : Type 0 where
    pub more : List ℕ
    pub consumed : Gave (observed old.source.now) (observed new.source.now) more
    pub stands : StandsFor observed new (given ++ more) handed

  -- ---- what a call inside the reader leaves

  -- all bytes at hand are judged, and no kept streams are left
  abbrev pub IsUsedUp : Entries R S H builds hashes → Type 0
  IsUsedUp entries = (entries.start ≡ entries.end) × (entries.pairing.container.cursor ≡ None)

  -- whether bytes are at hand, or kept streams; if not, the source has none left
  pub record FillsOrEnds (observed : R → Observed) (new : Entries R S H builds hashes)
      (more : Bool) : Type
      0 where
    pub some : IsTrue more → new.pairing.container.cursor ≡ None → new.start < new.end
    pub none : IsFalse more → IsUsedUp new
    pub end : IsFalse more → IsSpent (observed (source_of new))

  -- the same with the error that was noted
  abbrev pub with_error : {X : Type 0} → Entries R S H builds hashes → Result X Noted
      → Result X Error
  with_error new (Ok x) = Ok x
  with_error new (Err noted) = Err new.pairing.error

  -- a failure is noted for good, and no entry is lent
  pub record NotesFailure {X : Type 0} (new : Entries R S H builds hashes)
      (result : Result X Noted) : Type 0 where
    pub failed : OnErr result (failure_of new ≡ Some new.pairing.error)
    pub unlent : OnErr result (last_of new ≡ None)

  -- The source is read once at most. The block and the reference to the source stay.
  pub record ReadsOnce {X : Type 0} (failures : R → ℕ) (old new : Entries R S H builds hashes)
      (result : Result X Error) : Type 0 where
    pub read : CountsReads failures old new result
    pub same_block : block_size new ≡ block_size old
    pub same_reference : loan_of new ≡ loan_of old

  -- the kind that a step leaves, or the error
  abbrev pub next_kind : Entries R S H builds hashes → Result Bool Noted
      → Result (Option Kind) Error
  next_kind new (Ok true) = Ok (last_of new)
  next_kind new (Ok false) = Ok None
  next_kind new (Err noted) = Err new.pairing.error

  -- what a step leaves, whatever the reader stood for, of which this came
  pub record LeavesKind {V : Type 0} (failures : R → ℕ) (old new : Entries R S H builds hashes)
      (was now : V) (next : Result (Option Kind) Error) : Type 0 where
    pub end : next ≡ Ok (Some kinds.End) → IsOver new
    pub over : IsOver old → (next ≡ Ok None) × (new ≡ old)
    pub fewer : IfOk next (λ kind. IsSome kind → entries_left new < entries_left old)
    pub unmoved : IfOk next (λ kind. kind ≡ None → now ≡ was)
    pub errors : KeepsErrors old new next
    pub device : UsesSource failures old new next
