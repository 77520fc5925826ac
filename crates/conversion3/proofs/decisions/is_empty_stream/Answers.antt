use Rattle.std.proofs.Common.{◌∙◌, ◌==◌, List, length, ap, sym, arith}
use Rattle.std.proofs.lemmas.Bool.{false≢true}
use Rattle.streams3.specs.declared.runs.Run.{Run}
use Rattle.conversion3.proofs.ChoiceLemmas.{gap_there}
use Rattle.conversion3.proofs.DecisionLemmas.{empty_is}
use Rattle.conversion3.proofs.decisions.is_empty_stream.Goals as goal
use Rattle.conversion3.proofs.decisions.is_empty_stream.Goals.{then-not-is_empty-via-then-not-is_empty, then-not-is_empty-via-else-not-is_empty+then-is_some}

pub returns-then-not-is_empty : goal.returns-then-not-is_empty
returns-then-not-is_empty c = λ shown order. (
  λ yes. absurd (false≢true yes),
  λ empty.
      let is = empty_is shown c.args.stream.now order empty in
      absurd (elim c.then-not-is_empty.branch [
        | then-not-is_empty-via-then-not-is_empty w ↦
            false≢true (sym w.if-not-is_empty.true ∙ c.is_empty.ensures
            ∙ ap (λ (l : List Run). length l == 0) (c.runs.ensures ∙ is.none))
        | then-not-is_empty-via-else-not-is_empty+then-is_some w ↦
            let gap = gap_there w.missing.result _ _ w.if-is_some.ensures w.missing.ensures in
            is.full gap.0.begin (gap.1.missing gap.0.begin (omega arith) gap.1.some)
      ]),
)
