-- What the reads of files gave.
use Rattle.std.specs.Prelude.{◌≡◌, ◌⊎◌, ℕ, Bool, true, List, [], ◌∷◌, ◌++◌, map, Option, Some, Result, Err}
use Rattle.capture3.specs.Device.{TracedReader}
use Rattle.capture3.specs.declared.fault.Error.{Error}
use Rattle.capture3.specs.declared.fault.Error.TheVariants as errors
use Rattle.program3.specs.declared.reading.Closed.{Closed}
use Rattle.program3.specs.declared.reading.Opened.{Opened}
use Rattle.program3.specs.declared.reading.Readings.{Readings}
use Rattle.program3.specs.declared.reading.Readings.TheVariants.{Nothing, OfOne, OfTwo, OfMany}

-- What the reads of a file gave: the name under which it was opened, the bytes that they gave, one
-- read after another, whether the last read that did not fail gave none, and how many failed, up to
-- 2^64 - 1.
pub record FileReading : Type 0 where
  pub name : List ℕ
  pub given : List ℕ
  pub is_spent : Bool
  pub failures : ℕ

-- the reads of a source so far, over a file that was opened under this name
abbrev pub reading_under : {R : Type 0} → List ℕ → TracedReader R → FileReading
reading_under name source = record {
  name = name;
  given = source.given;
  is_spent = source.is_spent;
  failures = source.failures;
}

abbrev pub reading_of : {R : Type 0} → Opened R → FileReading
reading_of opened = reading_under opened.name.bytes opened.source

-- the reads of a file that was closed
abbrev pub reading_in : Closed → FileReading
reading_in closed = record {
  name = closed.name.bytes;
  given = closed.given.given;
  is_spent = closed.given.is_spent;
  failures = closed.given.failures;
}

-- what was read, one file after another
abbrev pub readings_in : Readings → List FileReading
readings_in Nothing = []
readings_in (OfOne one) = reading_in one ∷ []
readings_in (OfTwo one other) = reading_in one ∷ reading_in other ∷ []
readings_in (OfMany many) = map reading_in many.items

-- nothing was read of a source over these bytes, if they are known
pub record IsUnread {R : Type 0} (remaining : R → Option (List ℕ)) (whole : Option (List ℕ))
    (source : TracedReader R) : Type 0 where
  pub given : source.given ≡ []
  pub failures : source.failures ≡ 0
  pub left : remaining source.device ≡ whole

-- the file was opened under this name, and nothing was read of it yet
abbrev pub IsOpened : {R : Type 0} → (remaining : R → Option (List ℕ))
    → (holds : List ℕ → Option (List ℕ)) → List ℕ → Opened R → Type 0
IsOpened remaining holds name opened =
    (opened.name.bytes ≡ name) × IsUnread remaining (holds name) opened.source

-- the reads gave a prefix of these bytes, and all of them if the last one gave none
pub record BeginsWithReads (reading : FileReading) (bytes : List ℕ) : Type 0 where
  pub rest : List ℕ
  pub split : bytes ≡ reading.given ++ rest
  pub all : reading.is_spent ≡ true → rest ≡ []

-- What a file may contain of which just this was read: any bytes that begin with what the reads
-- gave, and its own, if they are known.
abbrev pub MayContain : (whole : Option (List ℕ)) → FileReading → List ℕ → Type 0
MayContain whole reading bytes = BeginsWithReads reading bytes ⊎ (whole ≡ Some bytes)

-- a read has failed, if that is the error
abbrev pub IsByFailedRead : {X : Type 0} → FileReading → Result X Error → Type 0
IsByFailedRead reading (Err errors.Read) = reading.failures ≡ 1
IsByFailedRead reading _ = Unit {0}
