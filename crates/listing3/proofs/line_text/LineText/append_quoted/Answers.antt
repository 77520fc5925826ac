use Rattle.listing3.proofs.Common.{◌∙◌, arith, common_steps, on_err}
use Rattle.listing3.proofs.PutsBytesLemmas.{kept_below, kept_by}
use Rattle.listing3.proofs.line_text.LineText.append_quoted.Goals as goal

pub returns-in_err-self-inside-clause-err : goal.returns-in_err-self-inside-clause-err
returns-in_err-self-inside-clause-err c =
    on_err c.from_residual-in_err-self-inside.result
    (kept_below c.self.inside.end c.put_name-start.result
    _ _ (omega (arith, c.put_name-start.ensures.end)) c.in_err-self-inside.ensures.kept
    ∙ grind (
      arith,
      common_steps,
      kept_by _ _ c.self.inside.end c.put_name-start.result _
          c.put_name-start.ensures.puts (omega (arith, c.put_name-start.ensures.end))
          (grind (arith, common_steps)),
    ))
