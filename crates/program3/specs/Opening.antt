-- What is told of a file that cannot be opened.
use Rattle.std.specs.Prelude.{◌≡◌, ◌⊎◌, ℕ, ℤ, List, Option, None, string_bytes}
use Rattle.std.specs.declared.io.ErrorKind.{ErrorKind}
use Rattle.std.specs.declared.io.ErrorKind.TheVariants.{OutOfMemory}
use Rattle.program3.specs.declared.input.opening.OpenError.{OpenError}
use Rattle.program3.specs.declared.input.opening.OpenError.TheVariants as causes
use Rattle.program3.specs.declared.outcome.Outcome.{Outcome}
use Rattle.program3.specs.declared.outcome.Outcome.TheVariants.{Unopened}

-- the program's own memory ran out if the error has no number of the system's
abbrev pub open_error_of : ErrorKind → Option ℤ → OpenError
open_error_of OutOfMemory None = causes.Memory
open_error_of _ _ = causes.Unopened

-- a file of this name could not be opened
abbrev pub IsOfName : List ℕ → Outcome → Type 0
IsOfName name (Unopened text) = string_bytes text ≡ name
IsOfName name _ = ⊥

-- the file by its name, or that memory ran out
abbrev pub ReportsUnopened : List ℕ → OpenError → Outcome → Outcome → Type 0
ReportsUnopened name causes.Unopened out_of_memory told =
    IsOfName name told ⊎ (told ≡ out_of_memory)
ReportsUnopened name causes.Memory out_of_memory told = told ≡ out_of_memory
