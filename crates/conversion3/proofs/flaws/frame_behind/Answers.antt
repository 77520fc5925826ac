use Rattle.std.proofs.Common.{◌≡◌, ◌∙◌, ℕ, List, None, Option, sym, subst, ap}
use Rattle.std.specs.Option.{MatchOption}
use Rattle.streams3.specs.declared.runs.Run.{Run}
use Rattle.streams3.specs.Order.{AreFirstMissing}
use Rattle.streams3.specs.Runs.{spot_of}
use Rattle.conversion3.specs.Flaws.{ShowsSent, last_mark}
use Rattle.conversion3.proofs.OrderedLemmas.{frame_is_known, mark_is_behind}
use Rattle.conversion3.proofs.flaws.frame_behind.Goals as goal

pub returns-in_err-mark : goal.returns-in_err-mark
returns-in_err-mark c =
    let stream = c.args.stream.now in
    let bytes = c.args.bytes in
    subst
    (λ (frame : Option ℕ).
    MatchOption frame (AreFirstMissing stream bytes → ⊥) (ShowsSent stream bytes.end))
    (sym c.from_residual.ensures)
    (frame_is_known stream bytes c.or.result
    (subst (λ (runs : List Run). spot_of runs bytes.end ≡ None) c.runs.ensures c.in_default.ensures)
    (c.or.ensures ∙ ap last_mark c.marks-marks.ensures) c.in_err-mark.was)

pub returns-else-mark-bytes : goal.returns-else-mark-bytes
returns-else-mark-bytes c =
    let bytes = c.args.bytes in
    mark_is_behind c.args.stream.now bytes c.or.result c.in_ok-mark.mark
    (subst (λ (runs : List Run). spot_of runs bytes.end ≡ None) c.runs.ensures c.in_default.ensures)
    (c.or.ensures ∙ ap last_mark c.marks-marks.ensures) c.in_ok-mark.was c.if-mark-bytes.false
