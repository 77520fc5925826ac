-- What the program prints of an outcome, and its exit status.
use Rattle.std.specs.Prelude.{◌≡◌, ℕ, ◌-◌, ◌==◌, ◌&&◌, not, nat_le, if◌then◌else◌, List, [], ◌∷◌, ◌++◌, length, slice_index, Ok, Err, codes, decimal, string_bytes}
use Rattle.std.specs.List.{concat, flat_map}
use Rattle.hex.specs.Hex.{encode_lower}
use Rattle.xdr3.specs.Reason.{name_of}
use Rattle.capture3.specs.declared.fault.Error.{Error}
use Rattle.capture3.specs.declared.fault.Error.TheVariants as errors
use Rattle.capture3.specs.declared.fault.Fault.{Fault}
use Rattle.capture3.specs.declared.fault.Place.{Place}
use Rattle.capture3.specs.declared.fault.Place.TheVariants.{File, Record}
use Rattle.capture3.specs.declared.fault.Side.{Side}
use Rattle.capture3.specs.declared.fault.Side.TheVariants.{Client, Server}
use Rattle.canon3.specs.declared.summary.Summary.{Summary}
use Rattle.canon3.specs.declared.comparison.verdict.Verdict.{Verdict}
use Rattle.canon3.specs.declared.comparison.verdict.Verdict.TheVariants.{Same, Differ}
use Rattle.canon3.specs.declared.comparison.verdict.Which.{Which}
use Rattle.canon3.specs.declared.comparison.verdict.Which.TheVariants.{First, Second}
use Rattle.line3.specs.declared.asked.LineFault.{LineFault}
use Rattle.line3.specs.declared.asked.LineFault.TheVariants as lines
use Rattle.program3.specs.declared.outcome.Outcome.{Outcome}
use Rattle.program3.specs.declared.outcome.Outcome.TheVariants.{Counted, Masked, Listed, Compared, Packed, Unopened, Irregular, Told, Line}
use Rattle.program3.specs.declared.outcome.Report.{Report}

-- the byte that ends a line
abbrev pub newline : List ℕ
newline = 10 ∷ []

-- a byte of a file's name: a control character or a backslash is a backslash, an x and two
-- lower-case hexadecimal digits
abbrev pub escaped_byte : ℕ → List ℕ
escaped_byte b =
    if nat_le 32 b && not (b == 127) && not (b == 92) then b ∷ [] else 92 ∷ 120
    ∷ encode_lower (b ∷ [])

abbrev pub escaped : List ℕ → List ℕ
escaped bytes = flat_map escaped_byte bytes

-- the line that tells a file that could not be opened
abbrev pub unopened_of : List ℕ → List ℕ
unopened_of name = concat (codes "open failed: " ∷ escaped name ∷ newline ∷ [])

-- the line that tells a recording that cannot be read by offsets
abbrev pub irregular_line : List ℕ
irregular_line = codes "the recording is no regular file: write it into one first" ++ newline

-- the line that tells the counts
abbrev pub counts_of : Summary → List ℕ
counts_of s =
    concat (codes "ok connections=" ∷ decimal s.connections ∷ codes " calls=" ∷ decimal s.calls
    ∷ codes " replies=" ∷ decimal s.replies ∷ codes " handles=" ∷ decimal s.handles ∷ newline ∷ [])

-- the line that tells a mask by these words
abbrev pub mask_line : List ℕ → List ℕ
mask_line mask = concat (codes "masked" ∷ mask ∷ newline ∷ [])

-- the name of a side
abbrev pub side_of : Side → List ℕ
side_of Client = codes "client"
side_of Server = codes "server"

-- the line that tells a place in a capture, and a reason
abbrev pub line_at : Place → List ℕ → List ℕ
line_at (File at) reason = concat (codes "file " ∷ decimal at ∷ codes ": " ∷ reason ∷ newline ∷ [])
line_at (Record conn side rec_no byte) reason =
    concat (codes "connection " ∷ decimal conn ∷ codes " " ∷ side_of side ∷ codes " record "
    ∷ decimal rec_no ∷ codes " byte " ∷ decimal byte ∷ codes ": " ∷ reason ∷ newline ∷ [])

-- the line that tells a fault
abbrev pub fault_of : Fault → List ℕ
fault_of f = line_at f.place (name_of f.reason)

-- the status and the two texts
pub record Prints (number : ℕ) (printed refused : List ℕ) (report : Report) : Type 0 where
  pub status : report.status ≡ number
  pub out : report.out.items ≡ printed
  pub err : report.err.items ≡ refused

-- status 2 for a refused capture, 3 for a device or memory that failed
abbrev pub status_of : Error → ℕ
status_of (errors.Refused fault) = 2
status_of _ = 3

-- the line that tells why a capture was not read to its end
abbrev pub error_line : Error → List ℕ
error_line (errors.Refused fault) = fault_of fault
error_line errors.Read = codes "read failed" ++ newline
error_line errors.Write = codes "write failed" ++ newline
error_line errors.Memory = codes "out of memory" ++ newline

abbrev pub PrintsError : Error → Report → Type 0
PrintsError error = Prints (status_of error) [] (error_line error)

-- what names one of two captures
abbrev pub prefix_of : Which → List ℕ
prefix_of First = codes "first: "
prefix_of Second = codes "second: "

-- the line that tells the first place at which two captures part
abbrev pub differing_at : Place → List ℕ
differing_at (File at) = concat (codes "differ at file " ∷ decimal at ∷ newline ∷ [])
differing_at (Record conn side rec_no byte) =
    concat (codes "differ at connection " ∷ decimal conn ∷ codes " " ∷ side_of side
    ∷ codes " record " ∷ decimal rec_no ∷ newline ∷ [])

-- status 0 for captures that are the same, and 1 for captures that are not
abbrev pub PrintsVerdict : Verdict → Report → Type 0
PrintsVerdict Same = Prints 0 (codes "same" ++ newline) []
PrintsVerdict (Differ place) = Prints 1 (differing_at place) []

-- the text with a newline at its end
abbrev pub ended_of : List ℕ → List ℕ
ended_of text = if slice_index text (length text - 1) == 10 then text else text ++ newline

-- status 4 for a command line that is refused
abbrev pub PrintsLineFault : LineFault → Report → Type 0
PrintsLineFault (lines.Usage text) = Prints 4 [] (ended_of (string_bytes text))
PrintsLineFault lines.Odd = Prints 4 [] (codes "streams come in pairs" ++ newline)
PrintsLineFault lines.SameName = Prints 4 [] (codes "output names an input" ++ newline)
PrintsLineFault lines.NotText = Prints 4 [] (codes "a word of the line is not UTF-8" ++ newline)
PrintsLineFault lines.Memory = PrintsError errors.Memory

-- A listing and a packing have written what they have to say. Of two captures the one that could
-- not be read is named.
abbrev pub PrintsOutcome : Outcome → Report → Type 0
PrintsOutcome (Counted (Ok summary)) = Prints 0 (counts_of summary) []
PrintsOutcome (Counted (Err error)) = PrintsError error
PrintsOutcome (Masked summary mask) =
    Prints 0 (counts_of summary ++ mask_line (string_bytes mask)) []
PrintsOutcome (Listed (Ok summary)) = Prints 0 [] []
PrintsOutcome (Listed (Err error)) = PrintsError error
PrintsOutcome (Compared (Ok verdict)) = PrintsVerdict verdict
PrintsOutcome (Compared (Err error)) =
    Prints (status_of error.error) [] (prefix_of error.which ++ error_line error.error)
PrintsOutcome (Packed (Ok done)) = Prints 0 [] []
PrintsOutcome (Packed (Err error)) = PrintsError error
PrintsOutcome (Unopened name) = Prints 3 [] (unopened_of (string_bytes name))
PrintsOutcome Irregular = Prints 3 [] irregular_line
PrintsOutcome (Told report) = Prints report.status report.out.items report.err.items
PrintsOutcome (Line fault) = PrintsLineFault fault
