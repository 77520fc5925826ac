-- What is printed of a recording that was converted.
use Rattle.std.specs.Prelude.{ℕ, ◌+◌, ◌-◌, Bool, true, false, ◌&&◌, not, cond, count_by, List, [], ◌∷◌, ◌++◌, length, Option, None, Some, codes, decimal}
use Rattle.std.specs.List.{concat, list_any}
use Rattle.connections3.specs.declared.connection.Connection.{Connection}
use Rattle.connections3.specs.declared.connection.Flow.{Flow}
use Rattle.conversion3.specs.Whole.{side_flow}
use Rattle.conversion3.specs.declared.decisions.Decision.{Decision}
use Rattle.conversion3.specs.declared.decisions.Decision.TheVariants.{Flawed, Whole}
use Rattle.conversion3.specs.declared.flaws.StreamFlaw.{StreamFlaw}
use Rattle.conversion3.specs.declared.flaws.StreamFlaw.TheVariants.{NoSyn, Missing, Beyond, Stray, Changed}
use Rattle.conversion3.specs.declared.judgment.Flaw.{Flaw}
use Rattle.program3.specs.Printed.{Prints, newline, side_of}
use Rattle.program3.specs.declared.outcome.Report.{Report}
use Rattle.recording3.specs.Places.{Passed}
use Rattle.recording3.specs.declared.contents.Ending.{Ending}
use Rattle.recording3.specs.declared.contents.Ending.TheVariants as endings
use Rattle.recording3.specs.declared.frames.RecordingEnd.{RecordingEnd}
use Rattle.recording3.specs.declared.outcomes.Tally.{Tally}
use Rattle.streams3.specs.Order.{begin_of}

-- what was found in a recording
pub record Findings : Type 0 where
  pub frames : List Passed
  pub end : RecordingEnd
  pub tally : Tally
  pub connections : List Connection
  pub decisions : List Decision

-- ---- the line of a recording

abbrev pub is_whole : Decision → Bool
is_whole Whole = true
is_whole _ = false

-- how many frames had no segment, by the reason: none of IP was looked for, or there is none
unfoldable pub below_text : Tally → List ℕ
below_text t = codes " unknown_link=" ++ (decimal t.unknown_link ++ (codes " cut="
    ++ (decimal t.cut ++ (codes " not_ip=" ++ decimal t.not_ip))))

-- the datagram is not read, or has no segment that is
unfoldable pub inside_text : Tally → List ℕ
inside_text t = codes " bad_ip=" ++ (decimal t.bad_ip ++ (codes " fragment="
    ++ (decimal t.fragment ++ (codes " not_tcp=" ++ (decimal t.not_tcp ++ (codes " bad_tcp="
    ++ decimal t.bad_tcp))))))

abbrev pub counts_line : RecordingEnd → Tally → List Decision → List ℕ
counts_line end tally decisions = concat (codes "frames=" ∷ decimal end.frames ∷ codes " segments="
    ∷ decimal tally.segments ∷ below_text tally ∷ inside_text tally ∷ codes " connections="
    ∷ decimal (length decisions) ∷ codes " packed=" ∷ decimal (count_by is_whole decisions)
    ∷ newline ∷ [])

-- ---- the line of a recording that does not end at its end

-- why no part begins there
abbrev pub ending_name : Ending → List ℕ
ending_name endings.End = codes "End"
ending_name endings.Cut = codes "Cut"
ending_name endings.NotRecording = codes "NotRecording"
ending_name endings.TooLong = codes "TooLong"
ending_name endings.BadOrder = codes "BadOrder"
ending_name endings.BadSize = codes "BadSize"
ending_name endings.Unequal = codes "Unequal"
ending_name endings.TooShort = codes "TooShort"
ending_name endings.NoInterface = codes "NoInterface"
ending_name endings.TooMany = codes "TooMany"

abbrev pub end_line : RecordingEnd → List ℕ
end_line end = concat (codes "file " ∷ decimal end.offset ∷ codes ": " ∷ ending_name end.why
    ∷ codes " after frame " ∷ decimal end.frames ∷ newline ∷ [])

abbrev pub is_at_end : Ending → Bool
is_at_end endings.End = true
is_at_end _ = false

abbrev pub end_text : RecordingEnd → List ℕ
end_text end = cond (is_at_end end.why) [] (end_line end)

-- ---- the lines of connections that are not whole

abbrev pub begin_of_flow : Option Flow → ℕ
begin_of_flow None = 0
begin_of_flow (Some flow) = begin_of flow.stream.marks.begin

-- a number that is none of the stream, and the frame that has it
abbrev pub stray_text : Option ℕ → List ℕ
stray_text None = codes "a number is none of the stream"
stray_text (Some frame) = codes "a number is none of the stream, frame " ++ decimal frame

-- What is wrong with a stream that begins at a position, and the frame that shows it. Bytes come
-- after so many others.
abbrev pub flaw_text : (begin : ℕ) → StreamFlaw → List ℕ
flaw_text begin NoSyn = codes "NoSyn"
flaw_text begin (Missing bytes frame) = decimal (bytes.end - bytes.begin)
    ++ (codes " bytes are missing after " ++ (decimal (bytes.begin - begin)
    ++ (codes ", frame " ++ decimal frame)))
flaw_text begin (Beyond mark) = codes "bytes follow FIN after " ++ (decimal (mark.position - begin)
    ++ (codes ", frame " ++ decimal mark.frame))
flaw_text begin (Stray frame) = stray_text frame
flaw_text begin (Changed run) = decimal run.size ++ (codes " bytes differ that came again after "
    ++ (decimal (run.position - begin) ++ (codes ", frame " ++ decimal run.frame)))

-- the line of the connection with a number
abbrev pub flaw_line : (number : ℕ) → Connection → Flaw → List ℕ
flaw_line number c flaw = concat (codes "connection " ∷ decimal number ∷ codes " "
    ∷ side_of flaw.side ∷ codes ": "
    ∷ flaw_text (begin_of_flow (side_flow c flaw.side)) flaw.kind ∷ newline ∷ [])

abbrev pub decision_text : (number : ℕ) → Connection → Decision → List ℕ
decision_text number c (Flawed flaw) = flaw_line number c flaw
decision_text number c _ = []

-- those of connections, from a number on
abbrev pub decisions_text : (number : ℕ) → List Connection → List Decision → List ℕ
decisions_text number [] decisions = []
decisions_text number (c ∷ connections) [] = []
decisions_text number (c ∷ connections) (d ∷ decisions) =
    decision_text number c d ++ decisions_text (number + 1) connections decisions

-- ---- all of it

abbrev pub is_flawed : Decision → Bool
is_flawed (Flawed flaw) = true
is_flawed _ = false

-- 0 if the recording was read to its end, and each chosen connection is whole
abbrev pub findings_status : Ending → List Decision → ℕ
findings_status why decisions = cond (is_at_end why && not (list_any is_flawed decisions)) 0 2

abbrev pub findings_text : Findings → List ℕ
findings_text f = concat (counts_line f.end f.tally f.decisions ∷ end_text f.end
    ∷ decisions_text 1 f.connections f.decisions ∷ [])

abbrev pub PrintsFindings : Findings → Report → Type 0
PrintsFindings f report =
    Prints (findings_status f.end.why f.decisions) (findings_text f) [] report

-- of a file that is no recording
abbrev pub PrintsNoRecording : RecordingEnd → Report → Type 0
PrintsNoRecording end report = Prints 2 [] (end_line end) report
