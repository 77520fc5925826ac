-- A reader and a writer under way, and what they come to.
use Rattle.std.specs.Prelude.{ℕ, Option, List, ◌++◌}
use Rattle.capture3.specs.Observed.{Gave, Observed}
use Rattle.std.specs.Io.KnownBytes.{Appends}
use Rattle.std.specs.declared.hash.BuildHasher as BuildHasher
use Rattle.std.specs.declared.hash.Hasher as Hasher
use Rattle.xdr3.specs.Item.{Item}
use Rattle.capture3.specs.declared.reader.entries.Entries.{Entries}
use Rattle.capture3.specs.Entries.{source_of}
use Rattle.capture3.specs.machinery.EntriesHistory.{StandsFor}
use Rattle.capture3.specs.Entry.{Entry}
use Rattle.canon3.specs.Summary.{GaveAll}

-- the writer can go on and stands for these entries, by the items before the next, and their form
-- was written
pub record HasWritten {T : Type 0} (form : List Entry → List ℕ) (before : List Entry → List Item)
    (rests : T → List Item → Type 0) (going : T → Type 0) (writer : T)
    (sink : Option (List ℕ) × Option (List ℕ)) (entries : List Entry) : Type 0 where
  pub goes : going writer
  pub stands_for : rests writer (before entries)
  pub written : Appends sink.0 sink.1 (form entries)

-- a reader, and what was observed of its source at the start
pub record ReaderSince (R S H : Type 0) (builds : BuildHasher.Ghosts S H)
    (hashes : Hasher.Ghosts H) : Type 0 where
  pub telling : R → Observed
  pub start : Observed
  pub reader : Entries R S H builds hashes

abbrev pub since : {R S H : Type 0} {builds : BuildHasher.Ghosts S H} {hashes : Hasher.Ghosts H}
    → (R → Observed) → Observed → Entries R S H builds hashes → ReaderSince R S H builds hashes
since telling start reader = record { telling = telling; start = start; reader = reader }

module _ {R S H : Type 0} {builds : BuildHasher.Ghosts S H} {hashes : Hasher.Ghosts H}
    (r : ReaderSince R S H builds hashes) where
  -- its source, as it was observed at the start and is now
  abbrev pub source_since : Observed × Observed
  source_since = (r.start, r.telling (source_of r.reader))

  -- it handed out these entries
  pub record HasGiven (handed : List Entry) : Type 0 where
    pub given : List ℕ
    pub consumed : Gave r.start (r.telling (source_of r.reader)) given
    pub stands : StandsFor r.telling r.reader given handed

  -- it handed out these and more, which were all, and this holds of them
  pub record IsDone (Wrote : List Entry → Type 0) (handed : List Entry) : Type 0 where
    pub more : List Entry
    pub has_given : HasGiven (handed ++ more)
    pub all : GaveAll source_since (handed ++ more)
    pub wrote : Wrote (handed ++ more)
