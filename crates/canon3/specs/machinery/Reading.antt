-- What calls that read do to their readers, whatever comes of the reading.
use Rattle.std.specs.Prelude.{◌≡◌, ◌≢◌, ℕ, IfErr, Result}
use Rattle.std.specs.declared.hash.BuildHasher as BuildHasher
use Rattle.std.specs.declared.hash.Hasher as Hasher
use Rattle.capture3.specs.declared.reader.entries.Entries.{Entries}
use Rattle.capture3.specs.declared.fault.Error.{Error}
use Rattle.capture3.specs.declared.fault.Error.TheVariants as errors
use Rattle.capture3.specs.Entries.{CountsReads, loan_of}
use Rattle.canon3.specs.declared.comparison.verdict.SameError.{SameError}
use Rattle.canon3.specs.declared.comparison.verdict.Which.TheVariants.{First, Second}
use Rattle.canon3.specs.Comparison.{CountsReadingOf}
use Rattle.canon3.specs.WriteErrors.{CountsWriting}
use Rattle.canon3.specs.machinery.ComparisonSteps.{CountsReadsOf}

-- of one reader
pub record ReadsOne {R S H X : Type 0} {builds : BuildHasher.Ghosts S H} {hashes : Hasher.Ghosts H}
    (failures : R → ℕ) (old new : Entries R S H builds hashes) (result : Result X Error)
    : Type 0 where
  pub read : CountsReads failures old new result
  -- it only reads
  pub write : IfErr result (λ error. error ≢ errors.Write)
  -- it keeps the source that it was lent
  pub same_reference : loan_of new ≡ loan_of old

-- of one reader whose entries are written, where so many writes had failed before and after
pub record ReadsAndWrites {R S H X : Type 0} {builds : BuildHasher.Ghosts S H}
    {hashes : Hasher.Ghosts H} (failures : R → ℕ) (old new : Entries R S H builds hashes)
    (old_writes new_writes : ℕ) (result : Result X Error) : Type 0 where
  pub read : CountsReads failures old new result
  pub write : CountsWriting old_writes new_writes result
  pub same_reference : loan_of new ≡ loan_of old

-- of the second of two
pub record ReadsSecond {R S H X : Type 0} {builds : BuildHasher.Ghosts S H}
    {hashes : Hasher.Ghosts H} (failures : R → ℕ) (old new : Entries R S H builds hashes)
    (result : Result X SameError) : Type 0 where
  pub read : CountsReadsOf Second failures old new result
  -- no error is the first's
  pub never_first : (old : ℕ) → CountsReadingOf First old old result
  pub write : IfErr result (λ error. error.error ≢ errors.Write)
  pub same_reference : loan_of new ≡ loan_of old

-- of two
pub record ReadsBoth {A B S H X : Type 0} {builds : BuildHasher.Ghosts S H}
    {hashes : Hasher.Ghosts H} (failures : A → ℕ) (failures_other : B → ℕ)
    (first first_new : Entries A S H builds hashes)
    (second second_new : Entries B S H builds hashes) (result : Result X SameError)
    : Type 0 where
  pub read_first : CountsReadsOf First failures first first_new result
  pub read_second : CountsReadsOf Second failures_other second second_new result
  pub write : IfErr result (λ error. error.error ≢ errors.Write)
  pub same_first : loan_of first_new ≡ loan_of first
  pub same_second : loan_of second_new ≡ loan_of second
