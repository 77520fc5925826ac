-- The files of the system that a command writes, and those that were finished.
use Rattle.std.specs.Prelude.{◌≡◌, ℕ, false, List, [], IfSome, Some, map, reverse, string_bytes}
use Rattle.std.specs.List.{list_any}
use Rattle.std.specs.declared.fs.File.{File}
use Rattle.canon3.specs.Traced.{TracedWriter}
use Rattle.program3.specs.Files.{WrittenFile}
use Rattle.program3.specs.Destinations.{is_one_file}
use Rattle.program3.specs.declared.files.Made.{Made}
use Rattle.program3.specs.declared.output.identity.FileIdentity.{FileIdentity}
use Rattle.program3.specs.declared.output.place.OutputPlace.{OutputPlace}
use Rattle.program3.specs.declared.system.SafeFile.{SafeFile}
use Rattle.program3.specs.declared.system.System.{System}

-- nothing is written yet, and the file will get this name
abbrev pub IsMade : Made (TracedWriter File) OutputPlace → List ℕ → Type 0
IsMade made name = (made.file.taken ≡ []) × (string_bytes made.place.name ≡ name)

-- the file that the output replaces, if there is one, is none of these
abbrev pub ReplacesNone : OutputPlace → List FileIdentity → Type 0
ReplacesNone place inputs =
    IfSome place.replaced (λ id. list_any (is_one_file id) inputs ≡ false)

-- a file of the system, and the bytes that its writes took
abbrev pub written_file : Made SafeFile OutputPlace → WrittenFile
written_file made =
    record { name = string_bytes made.place.name; bytes = Some made.file.file.taken }

-- the last first
abbrev pub finished_of : System → List WrittenFile
finished_of system = map written_file (reverse system.finished.items)
