-- What a comparison of two captures answers.
use Rattle.std.specs.Prelude.{◌≡◌, ℕ, ◌+◌, ◌-◌, ◌^◌, Bool, true, false, cond, min, List, Result, Ok, Err}
use Rattle.capture3.specs.Observed.{Observed}
use Rattle.capture3.specs.declared.fault.Error.{Error}
use Rattle.capture3.specs.declared.fault.Fault.{Fault}
use Rattle.capture3.specs.declared.fault.Error.TheVariants as errors
use Rattle.capture3.specs.Entry.{Entry}
use Rattle.capture3.specs.FirstFault.{FirstFault}
use Rattle.capture3.specs.Typed.{Typed}
use Rattle.canon3.specs.declared.comparison.verdict.SameError.{SameError}
use Rattle.canon3.specs.declared.comparison.verdict.Verdict.{Verdict}
use Rattle.canon3.specs.declared.comparison.verdict.Verdict.TheVariants as verdicts
use Rattle.canon3.specs.declared.comparison.verdict.Which.{Which}
use Rattle.canon3.specs.declared.comparison.verdict.Which.TheVariants.{First, Second}
use Rattle.canon3.specs.Parting.{Parting}
use Rattle.canon3.specs.Renaming.{Same}
use Rattle.canon3.specs.Summary.{GaveAll, GaveFault}

-- what shows with which entries a file is well formed, or which fault is its first
pub record Evidence : Type 1 where
  pub has : List Entry → Type 0
  pub refuses : Fault → Type 0

-- all its bytes
abbrev pub of_bytes : List ℕ → Evidence
of_bytes file = record { has = Typed file; refuses = FirstFault file }

-- what a source gave, as it was observed before the call, and as it is now
abbrev pub of_source : Observed × Observed → Evidence
of_source source = record { has = GaveAll source; refuses = GaveFault source }

-- The fault is the first of the first file, or of the second if the first is well formed. No other
-- error says anything of them.
abbrev pub StopsComparing : (first second : Evidence) → Error → Which → Type 0
StopsComparing first second (errors.Refused fault) First = first.refuses fault
StopsComparing first second (errors.Refused fault) Second =
    ((a : List Entry) × first.has a) × second.refuses fault
StopsComparing first second _ which = Unit {0}

-- Both files are well formed, and their entries are the same up to renaming, or are not and part at
-- the place; or an error came.
abbrev pub DecidesSame : (first second : Evidence) → Result Verdict SameError → Type 0
DecidesSame first second (Ok verdicts.Same) = (a : List Entry) × (b : List Entry) × first.has a
    × second.has b × Same a b
DecidesSame first second (Ok (verdicts.Differ place)) = (a : List Entry) × (b : List Entry)
    × first.has a × second.has b × (Same a b → ⊥) × Parting a b place
DecidesSame first second (Err error) = StopsComparing first second error.error error.which

-- a read of this one failed
abbrev pub is_read_of : (which one : Which) → Error → Bool
is_read_of First First errors.Read = true
is_read_of Second Second errors.Read = true
is_read_of _ _ _ = false

abbrev pub has_failed : {X : Type 0} → Which → Result X SameError → Bool
has_failed which (Ok x) = false
has_failed which (Err error) = is_read_of which error.which error.error

-- A read of this one that failed is the last, and counts once, up to the last value; without one,
-- nothing counts.
abbrev pub CountsReadingOf : {X : Type 0} → Which → ℕ → ℕ → Result X SameError → Type 0
CountsReadingOf which old new result =
    new ≡ cond (has_failed which result) (min (old + 1) (2 ^ 64 - 1)) old
