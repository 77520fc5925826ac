-- A reader of entries: what it answers for good, and what an error says of what it read and handed
-- out.
use Rattle.std.specs.Prelude.{◌≡◌, ◌⊎◌, ℕ, ◌+◌, ◌-◌, ◌≤◌, ◌^◌, min, Option, Some, None, Result, Err, List, [], ◌∷◌, ◌++◌, length, vec_len, ◌≢◌, IfErr, OnErr, OnOk}
use Rattle.std.specs.Borrow.{GName}
use Rattle.capture3.specs.Observed.{Observed, IsSpent}
use Rattle.std.specs.declared.hash.BuildHasher as BuildHasher
use Rattle.std.specs.declared.hash.Hasher as Hasher
use Rattle.capture3.specs.declared.reader.entries.Entries.{Entries}
use Rattle.capture3.specs.declared.reader.entries.ReaderStage.{ReaderStage}
use Rattle.capture3.specs.declared.reader.entries.ReaderStage.TheVariants.{Over, Failed}
use Rattle.capture3.specs.declared.reader.entry.Kind.{Kind}
use Rattle.capture3.specs.declared.fault.Error.{Error}
use Rattle.capture3.specs.declared.fault.Error.TheVariants as errors
use Rattle.capture3.specs.declared.fault.Fault.{Fault}
use Rattle.capture3.specs.Capture.{One, Two, max_connections}
use Rattle.capture3.specs.Entry.{Entry, End}
use Rattle.capture3.specs.FirstFault.{FirstFault}
use Rattle.capture3.specs.Laws.{IsOfVersion, begins, most_bytes, most_entries}
use Rattle.capture3.specs.Reached.{AreFirstReached, Reached}
use Rattle.capture3.specs.Typed.{Typed, IsWellFormed}

-- A read that failed is the last, and counts once, up to the last value; without one, nothing
-- counts.
abbrev pub CountsReading : {X : Type 0} → ℕ → ℕ → Result X Error → Type 0
CountsReading old new (Err errors.Read) = new ≡ min (old + 1) (2 ^ 64 - 1)
CountsReading old new _ = new ≡ old

-- what a refusal says of its fault; no other answer says anything
abbrev pub OnRefused : {X : Type 0} → Result X Error → (Fault → Type 0) → Type 0
OnRefused (Err (errors.Refused fault)) Says = Says fault
OnRefused _ Says = Unit {0}

-- all entries that the bytes reach, without the capture's end
abbrev pub AreAllBeforeEnd : List ℕ → List Entry → Type 0
AreAllBeforeEnd bytes entries = Typed bytes (entries ++ End ∷ [])
    ⊎ ((IsWellFormed bytes → ⊥) × Reached bytes entries)

-- After the bytes given, where the source tells this: whatever follows them, the fault is the
-- first, and these entries are reached before it; or nothing follows them, and the same holds of
-- them alone.
abbrev pub IsShownBy : (observed : Observed) (given : List ℕ) (handed : List Entry) → Fault → Type 0
IsShownBy observed given handed fault =
    ((rest : List ℕ) → FirstFault (given ++ rest) fault × Reached (given ++ rest) handed)
    ⊎ (IsSpent observed × FirstFault given fault × Reached given handed)

-- What an error says, after the bytes given and the entries handed out, where the source tells
-- this: the bytes given show the fault, and just these entries are reached; or a read failed, and
-- what the bytes given reach was handed out; or memory ran out.
abbrev pub IsMetBy : Error → Observed → List ℕ → List Entry → Type 0
IsMetBy (errors.Refused fault) observed given handed = IsShownBy observed given handed fault
IsMetBy errors.Read observed given handed = AreAllBeforeEnd given handed
IsMetBy errors.Write observed given handed = ⊥
IsMetBy errors.Memory observed given handed = AreFirstReached given handed

-- the error that is answered for good
abbrev pub failure_in : ReaderStage → Error → Option Error
failure_in Failed error = Some error
failure_in _ error = None

module _ {R S H : Type 0} {builds : BuildHasher.Ghosts S H} {hashes : Hasher.Ghosts H} where
  abbrev pub failure_of : Entries R S H builds hashes → Option Error
  failure_of entries = failure_in entries.stage entries.pairing.error

  -- the source, as the reads have left it
  abbrev pub source_of : Entries R S H builds hashes → R
  source_of entries = entries.source.now

  -- the reference through which the source was lent
  abbrev pub loan_of : Entries R S H builds hashes → GName
  loan_of entries = entries.source.ghost_name

  -- the failed reads of the source, between two states of its reader
  abbrev pub CountsReads : {X : Type 0} → (R → ℕ) → (old new : Entries R S H builds hashes)
      → Result X Error → Type 0
  CountsReads failures old new result =
      CountsReading (failures (source_of old)) (failures (source_of new)) result

  -- how many bytes a read asks for
  abbrev pub block_size : Entries R S H builds hashes → ℕ
  block_size entries = vec_len entries.block

  -- A call uses the source: at most one read of it fails, if no call failed before. It never
  -- writes.
  -- The block and the reference to the source stay.
  pub record UsesSource {X : Type 0} (failures : R → ℕ) (old new : Entries R S H builds hashes)
      (result : Result X Error) : Type 0 where
    pub read : failure_of old ≡ None → CountsReads failures old new result
    pub write : IfErr result (λ error. error ≢ errors.Write)
    pub same_block : block_size new ≡ block_size old
    pub same_reference : loan_of new ≡ loan_of old

  -- The entries that were handed out and the connections that they begin are at most as many as a
  -- capture has. The bytes given are at most one block more than the longest capture has, or the
  -- longest of version 1 if they are of that version, also if the source never ends.
  pub record KeepsLimits (entries : Entries R S H builds hashes) (given : List ℕ)
      (handed : List Entry) : Type 0 where
    pub few : length handed ≤ most_entries
    pub connections : begins handed ≤ max_connections
    pub most : length given ≤ most_bytes Two + block_size entries
    pub most_of_one : IsOfVersion One given → length given ≤ most_bytes One + block_size entries

  -- what the entry is that was handed out last
  abbrev pub last_of : Entries R S H builds hashes → Option Kind
  last_of entries = entries.pairing.last

  -- A call succeeds, or it fails for good: then no entry is lent. After an error the same is
  -- returned, and nothing is read.
  pub record KeepsErrors {X : Type 0} (old new : Entries R S H builds hashes)
      (result : Result X Error) : Type 0 where
    pub going : OnOk result (failure_of new ≡ None)
    pub failed : IfErr result (λ error. failure_of new ≡ Some error)
    pub unlent : OnErr result (last_of new ≡ None)
    pub again : (error : Error) → failure_of old ≡ Some error → result ≡ Err error
    pub unread : (error : Error) → failure_of old ≡ Some error → source_of new ≡ source_of old

  -- the end was handed out
  abbrev pub IsOver : Entries R S H builds hashes → Type 0
  IsOver entries = entries.stage ≡ Over
