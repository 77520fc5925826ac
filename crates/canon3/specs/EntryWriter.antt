-- What is written of a capture's entries while it is read. A form says which bytes a list of
-- entries is written as. A source and a sink are each told as a pair: as before the call, and as
-- after it.
use Rattle.std.specs.Prelude.{◌≡◌, ◌<◌, ◌^◌, ℕ, Option, List, [], ◌∷◌, ◌++◌, length, Result, Ok, Err}
use Rattle.capture3.specs.Observed.{Gave, Observed}
use Rattle.std.specs.Io.KnownBytes.{Appends}
use Rattle.capture3.specs.declared.fault.Error.{Error}
use Rattle.capture3.specs.declared.fault.Error.TheVariants as errors
use Rattle.capture3.specs.Entries.{IsMetBy}
use Rattle.capture3.specs.Entry.{Entry}
use Rattle.capture3.specs.FirstFault.{FirstFault}
use Rattle.capture3.specs.Numbering.{IsLentAfter}
use Rattle.capture3.specs.Progress.{HasPassed}
use Rattle.capture3.specs.Reached.{Reached}
use Rattle.capture3.specs.declared.reader.entry.LentEntry.{LentEntry}
use Rattle.capture3.specs.declared.reader.progress.Progress.{Progress}
use Rattle.capture3.specs.Typed.{Typed}
use Rattle.canon3.specs.declared.summary.Summary.{Summary}
use Rattle.canon3.specs.Laws.{AreFirst}
use Rattle.canon3.specs.Summary.{GaveAll, IsSummary}
use Rattle.canon3.specs.SinkWrites.{AppendsFront}

-- A lent entry comes next, after entries that begin a capture. It has its number, and this is how
-- far they had come.
pub record IsNextEntry (progress : Progress) (entries : List Entry) (lent : LentEntry) (one : Entry)
    : Type 0 where
  pub is_lent : IsLentAfter entries lent one
  pub first : AreFirst (entries ++ one ∷ [])
  pub few : length (entries ++ one ∷ []) < 2 ^ 32
  pub passed : HasPassed progress entries

module _ (form : List Entry → List ℕ) where
  -- What an error says, where the source gave these bytes and is observed so. The fault is the
  -- first of all bytes, and the form of the entries that these reach was written; or a read failed,
  -- and the form of the entries that the bytes given reach before a capture's end; or a write
  -- failed or memory ran out, and a front was written of the form of the entries that the bytes
  -- given reach.
  abbrev pub IsStoppedBy : Error → (observed : Observed) (given : List ℕ)
      (sink : Option (List ℕ) × Option (List ℕ)) → Type 0
  IsStoppedBy errors.Write observed given (old, new) = (entries : List Entry)
      × Reached given entries × AppendsFront old new (form entries)
  IsStoppedBy errors.Memory observed given (old, new) = (entries : List Entry)
      × Reached given entries × AppendsFront old new (form entries)
  IsStoppedBy error observed given (old, new) = (entries : List Entry)
      × IsMetBy error observed given entries × Appends old new (form entries)

  -- the source gave some bytes, and this error came of them
  abbrev pub StopsWriting : (source : Observed × Observed)
      (sink : Option (List ℕ) × Option (List ℕ)) → Error → Type 0
  StopsWriting (before, observed) sink error = (given : List ℕ) × Gave before observed given
      × IsStoppedBy error observed given sink

-- what is counted of a capture's bytes, and the form of its entries
module _ {C : Type 0} (AreCountsOf : List ℕ → C → Type 0) (form : List Entry → List ℕ) where
  -- the source gave a capture, these are its counts, and the form of its entries was written; or an
  -- error came of what it gave
  abbrev pub WritesGivenCounted : (source : Observed × Observed)
      (sink : Option (List ℕ) × Option (List ℕ)) → Result C Error → Type 0
  WritesGivenCounted source (old, new) (Ok counts) = (entries : List Entry)
      × (all : GaveAll source entries) × AreCountsOf all.given counts
      × Appends old new (form entries)
  WritesGivenCounted source sink (Err error) = StopsWriting form source sink error

  -- What is written of all bytes of a capture, of which the source gave a prefix. They are well
  -- formed, these are their counts, and the form of their entries was written; or this is their
  -- first fault, and the form of the entries that they reach was written. What was written before
  -- another error, `IsStoppedBy` says of the bytes given.
  abbrev pub WritesAllCounted : (bytes : List ℕ) (sink : Option (List ℕ) × Option (List ℕ))
      → Result C Error → Type 0
  WritesAllCounted bytes (old, new) (Ok counts) = (entries : List Entry) × Typed bytes entries
      × AreCountsOf bytes counts × Appends old new (form entries)
  WritesAllCounted bytes (old, new) (Err (errors.Refused fault)) = (entries : List Entry)
      × FirstFault bytes fault × Reached bytes entries × Appends old new (form entries)
  WritesAllCounted bytes sink (Err _) = Unit {0}

-- the same with the summary of a capture
module _ (form : List Entry → List ℕ) where
  abbrev pub WritesGiven : (source : Observed × Observed)
      (sink : Option (List ℕ) × Option (List ℕ)) → Result Summary Error → Type 0
  WritesGiven source sink result = WritesGivenCounted IsSummary form source sink result

  abbrev pub WritesAll : (bytes : List ℕ) (sink : Option (List ℕ) × Option (List ℕ))
      → Result Summary Error → Type 0
  WritesAll bytes sink result = WritesAllCounted IsSummary form bytes sink result

-- the form of the first entries is a prefix of the form of all
abbrev pub KeepsPrefixes : (List Entry → List ℕ) → Type 0
KeepsPrefixes form = (entries more : List Entry) → AreFirst (entries ++ more)
    → (rest : List ℕ) × (form (entries ++ more) ≡ form entries ++ rest)
