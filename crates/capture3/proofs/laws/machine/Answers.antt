use Rattle.capture3.proofs.Common.{sym, subst, Reached}
use Rattle.capture3.proofs.Lemmas.Files.Verdicts.{verdict_from_typed, typed_from_verdict, verdict_from_fault, fault_from_verdict}
use Rattle.capture3.proofs.Lemmas.Reached.EmittedEntries.{machine_reaches, reached_by_machine}
use Rattle.capture3.proofs.laws.machine.Goals as goal

pub returns-clause-entries : goal.returns-clause-entries
returns-clause-entries c file entries are =
    (verdict_from_typed file entries, typed_from_verdict file entries are)

pub returns-clause-fault : goal.returns-clause-fault
returns-clause-fault c file fault are =
    (verdict_from_fault file fault are, fault_from_verdict file fault are)

pub returns-clause-reached : goal.returns-clause-reached
returns-clause-reached c bytes entries are = (
  machine_reaches bytes entries are,
  (λ e. subst (Reached bytes) (sym e) (reached_by_machine bytes are)),
)
