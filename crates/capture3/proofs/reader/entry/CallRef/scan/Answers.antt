use Rattle.capture3.proofs.Common.{[], ∥∥₁_elim}
use mathlib.Core.HLevel.{⊥_prop}
use Rattle.capture3.proofs.Lemmas.Messages.SpelledLemmas.{call_never_stops}
use Rattle.capture3.proofs.reader.entry.CallRef.scan.Goals as goal

pub unreachable-requires : goal.unreachable-requires
unreachable-requires g c =
    ∥∥₁_elim c.args.self.now.spells ⊥_prop
    (λ s.
    call_never_stops c.args.self.now.id c.args.self.now.body.now c.in-Err-Stop.field-0-0 s
    (c.in-Err-Stop.ensures.err [] c.in-Err-Stop.field-0-0 c.in-Err-Stop.field-0-is))
