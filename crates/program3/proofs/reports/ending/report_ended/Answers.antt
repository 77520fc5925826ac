use Rattle.program3.proofs.Common.{◌∙◌, inl, refl, subst, sym, Appends}
use Rattle.program3.proofs.EndingLemmas.{unless_failed}
use Rattle.program3.proofs.reports.ending.report_ended.Goals as goal

pub returns : goal.returns
returns g c =
    let report = c.in-Ok.report in
    let err = g.E.Write.contents c.args.err.now in
    let err_now = g.E.Write.contents c.tell-is_reported-2.new.err in
    let out = g.O.Write.contents c.args.out.now in
    let out_now = g.O.Write.contents c.print_report.new.out in
    inl (
      report,
      c.in-Ok.ensures,
      refl,
      unless_failed (Appends out out_now report.out.items) c.print_report.result
          (sym c.is_err.ensures.value ∙ c.if-is_err.false) c.print_report.ensures,
      λ told.
          subst (Appends err err_now) c.deref.ensures.value (c.tell-is_reported-2.ensures told),
    )
