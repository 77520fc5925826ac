-- What the end of a program prints.
use Rattle.std.specs.Prelude.{◌≡◌, ◌⊎◌, ℕ, Bool, true, false, Option, List, [], ◌++◌, codes}
use Rattle.std.specs.Io.KnownBytes.{Appends}
use Rattle.program3.specs.Printed.{newline, Prints, PrintsOutcome}
use Rattle.program3.specs.declared.reports.ending.Exit.{Exit}
use Rattle.program3.specs.declared.outcome.Ended.{Ended}
use Rattle.program3.specs.declared.outcome.Outcome.{Outcome}
use Rattle.program3.specs.declared.outcome.Report.{Report}

-- the report of an outcome; both texts are for standard error if standard output has the bytes of
-- the file
abbrev pub IsReport : (is_aside : Bool) → Outcome → Report → Type 0
IsReport false outcome report = PrintsOutcome outcome report
IsReport true outcome report = (plain : Report) × PrintsOutcome outcome plain
    × Prints plain.status [] (plain.out.items ++ plain.err.items) report

-- the text is appended to standard error, unless that fails
abbrev pub ReportsOnError : (is_reported : Bool) → (old new : Option (List ℕ)) → List ℕ → Type 0
ReportsOnError is_reported old new text = is_reported ≡ true → Appends old new text

-- What standard output and standard error hold, before something is printed and after it.
pub record Printing : Type 0 where
  pub out_before : Option (List ℕ)
  pub out_after : Option (List ℕ)
  pub err_before : Option (List ℕ)
  pub err_after : Option (List ℕ)

-- The report was printed, and its status is returned; or standard output failed, which is told; or
-- memory ran out for the report, and nothing was printed.
abbrev pub ReportsEnded : Ended → Printing → Exit → Type 0
ReportsEnded ended printing told =
    ((report : Report) × IsReport ended.is_aside ended.outcome report
    × (told.status ≡ report.status)
    × Appends printing.out_before printing.out_after report.out.items
    × ReportsOnError told.is_reported printing.err_before printing.err_after report.err.items)
    ⊎ ((told.status ≡ 3)
    × ReportsOnError told.is_reported printing.err_before printing.err_after
    (codes "write failed" ++ newline))
    ⊎ ((told.status ≡ 3) × (printing.out_after ≡ printing.out_before)
    × (printing.err_after ≡ printing.err_before))
