-- Two captures that are compared entry by entry: how far it has come, and what each step finds.
use Rattle.std.specs.Prelude.{◌≡◌, ◌≢◌, ℕ, length, Option, None, Some, List, [], ◌∷◌, ◌++◌, Result, Ok, Err}
use Rattle.capture3.specs.Observed.{Observed}
use Rattle.std.specs.declared.hash.BuildHasher as BuildHasher
use Rattle.std.specs.declared.hash.Hasher as Hasher
use Rattle.capture3.specs.declared.reader.entries.Entries.{Entries}
use Rattle.capture3.specs.declared.fault.Error.{Error}
use Rattle.capture3.specs.declared.fault.Error.TheVariants as errors
use Rattle.capture3.specs.declared.fault.Place.{Place}
use Rattle.capture3.specs.Entries.{source_of}
use Rattle.capture3.specs.Entry.{Entry}
use Rattle.capture3.specs.MessageVisit.{HasHeard}
use Rattle.capture3.specs.Typed.{Typed}
use Rattle.canon3.specs.declared.comparison.Comparison.{Comparison}
use Rattle.canon3.specs.declared.comparison.Finding.{Finding}
use Rattle.canon3.specs.declared.comparison.Finding.TheVariants as findings
use Rattle.canon3.specs.declared.comparison.verdict.SameError.{SameError}
use Rattle.canon3.specs.declared.comparison.verdict.Verdict.{Verdict}
use Rattle.canon3.specs.declared.comparison.verdict.Which.{Which}
use Rattle.canon3.specs.declared.comparison.verdict.Which.TheVariants.{Second}
use Rattle.canon3.specs.Bytes.{bytes_of}
use Rattle.canon3.specs.Canonical.{canonical}
use Rattle.canon3.specs.declared.canonical_form.message_writer.MessageWriter.{MessageWriter}
use Rattle.canon3.specs.machinery.MessageWriter.{values_before, WriterRests, WriterStands}
use Rattle.canon3.specs.Parting.{IsPlaceOf}
use Rattle.canon3.specs.machinery.WritingSteps.{HasGiven, ReaderSince, source_since}
use Rattle.canon3.specs.Comparison.{CountsReadingOf, StopsComparing, of_source}
use Rattle.canon3.specs.Summary.{GaveAll, GaveFault}

-- as many first entries of each, whose canonical forms have equal bytes
pub record Agree (a b : List Entry) : Type 0 where
  pub many : length a ≡ length b
  pub bytes : bytes_of (canonical a) ≡ bytes_of (canonical b)

-- after these, two entries with which the forms' bytes are not equal, and their place
pub record PartWith (a b : List Entry) (e f : Entry) (place : Place) : Type 0 where
  pub agree : Agree a b
  pub differ : bytes_of (canonical (a ++ e ∷ [])) ≢ bytes_of (canonical (b ++ f ∷ []))
  pub place_is : IsPlaceOf a (Some e) (Some f) place

-- the writer holds the values of these entries, and was passed the one after them, if there is one
abbrev pub HasReceived : {S H : Type 0} → MessageWriter S H → List Entry → Option Entry → Type 0
HasReceived n entries None = WriterRests n (values_before entries)
HasReceived n entries (Some one) = HasHeard WriterRests WriterStands n (values_before entries) one

-- these were compared, and the numberings stand for their values, and were passed the next two
pub record HaveReceived {S H : Type 0} (comparison : Comparison S H) (a b : List Entry)
    (next other : Option Entry) : Type 0 where
  pub agree : Agree a b
  pub first : HasReceived comparison.first a next
  pub second : HasReceived comparison.second b other

-- these were compared
abbrev pub IsCompared : {S H : Type 0} → Comparison S H → (a b : List Entry) → Type 0
IsCompared comparison a b = HaveReceived comparison a b None None

abbrev pub Compares : {S H : Type 0} → Comparison S H → (a b : List Entry) (e f : Entry)
    → Option Place → Type 0
Compares comparison a b e f None = IsCompared comparison (a ++ e ∷ []) (b ++ f ∷ [])
Compares comparison a b e f (Some place) = PartWith a b e f place

-- an error of the second, whose refusal waits
abbrev pub met_second : Error → Result (Option Finding) SameError
met_second (errors.Refused fault) = Ok (Some (findings.Refused fault))
met_second error = Err (record { which = Second; error = error })

-- the refusal that waits
abbrev pub refusal_in : Option Finding → Option Error
refusal_in (Some (findings.Refused fault)) = Some (errors.Refused fault)
refusal_in _ = None

-- the failed reads of this one's source, between two states of its reader
abbrev pub CountsReadsOf : {R S H X : Type 0} {builds : BuildHasher.Ghosts S H}
    {hashes : Hasher.Ghosts H} → Which → (R → ℕ) → (old new : Entries R S H builds hashes)
    → Result X SameError → Type 0
CountsReadsOf which failures old new result =
    CountsReadingOf which (failures (source_of old)) (failures (source_of new)) result

-- what an error of a reader says of what its source gave
abbrev pub GaveError : (source : Observed × Observed) → Error → Type 0
GaveError source (errors.Refused fault) = GaveFault source fault
GaveError source _ = Unit {0}

-- the source gave all that it had, after these entries
abbrev pub IsReadOut : {X : Type 0} → (source : Observed × Observed) → List Entry → Result X Error
    → Type 0
IsReadOut source handed (Ok x) = (more : List Entry) × GaveAll source (handed ++ more)
IsReadOut source handed (Err error) = GaveError source error

-- the same of the second source, with this verdict
abbrev pub IsReadAfter : (source : Observed × Observed) → List Entry → Verdict
    → Result Verdict SameError → Type 0
IsReadAfter source handed verdict (Ok answer) = (answer ≡ verdict) × (more : List Entry)
    × GaveAll source (handed ++ more)
IsReadAfter source handed verdict (Err error) = (error.which ≡ Second)
    × GaveError source error.error

-- the first source, and the second's reader
module _ {R S H : Type 0} {builds : BuildHasher.Ghosts S H} {hashes : Hasher.Ghosts H}
    (first : Observed × Observed) (second : ReaderSince R S H builds hashes)
    (comparison : Comparison S H) (a b : List Entry) (e : Entry) where
  -- the second's entry came beside e, and they are alike
  pub record GoesWith : Type 0 where
    pub f : Entry
    pub given : HasGiven second (b ++ f ∷ [])
    pub compared : IsCompared comparison (a ++ e ∷ []) (b ++ f ∷ [])

  pub record PartsHere (place : Place) : Type 0 where
    pub f : Entry
    pub given : HasGiven second (b ++ f ∷ [])
    pub parts : PartWith a b e f place

  abbrev pub Meets : Result (Option Finding) SameError → Type 0
  Meets (Ok None) = GoesWith
  Meets (Ok (Some findings.Ended)) = ⊥
  Meets (Ok (Some (findings.Parted place))) = PartsHere place
  Meets (Ok (Some (findings.Refused fault))) = GaveFault (source_since second) fault
  Meets (Err error) =
      StopsComparing (of_source first) (of_source (source_since second)) error.error error.which

module _ {A B S H : Type 0} {builds : BuildHasher.Ghosts S H} {hashes : Hasher.Ghosts H}
    (first : ReaderSince A S H builds hashes) (second : ReaderSince B S H builds hashes) where
  -- what the two handed out was compared
  pub record IsComparing (comparison : Comparison S H) : Type 0 where
    pub a : List Entry
    pub b : List Entry
    pub first_given : HasGiven first a
    pub second_given : HasGiven second b
    pub compared : IsCompared comparison a b

  pub record HaveEnded : Type 0 where
    pub a : List Entry
    pub b : List Entry
    pub first_given : HasGiven first a
    pub second_given : HasGiven second b
    pub agree : Agree a b
    pub file : List ℕ
    pub typed : Typed file a

  pub record HaveParted (place : Place) : Type 0 where
    pub a : List Entry
    pub b : List Entry
    pub e : Entry
    pub f : Entry
    pub first_given : HasGiven first (a ++ e ∷ [])
    pub second_given : HasGiven second (b ++ f ∷ [])
    pub parts : PartWith a b e f place

  abbrev pub IsFound : Finding → Type 0
  IsFound findings.Ended = HaveEnded
  IsFound (findings.Parted place) = HaveParted place
  IsFound (findings.Refused fault) = ((a : List Entry) × HasGiven first a)
      × GaveFault (source_since second) fault

  abbrev pub FindsOut : Result Finding SameError → Type 0
  FindsOut (Ok finding) = IsFound finding
  FindsOut (Err error) =
      StopsComparing (of_source (source_since first)) (of_source (source_since second)) error.error
      error.which

  abbrev pub StepsOn : Comparison S H → Result (Option Finding) SameError → Type 0
  StepsOn comparison (Ok None) = IsComparing comparison
  StepsOn comparison (Ok (Some finding)) = IsFound finding
  StepsOn comparison (Err error) = FindsOut (Err error)
