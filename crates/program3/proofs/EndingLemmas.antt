-- The report of an outcome, and how it is printed.
use Rattle.program3.proofs.Common.{◌≡◌, ◌++◌, true, false, Bool, [], Result, Ok, Err, IfOk, OnOk, is_err, subst, sym, Outcome}
use Rattle.program3.specs.Ending.{IsReport}
use Rattle.program3.specs.Printed.{Prints, PrintsOutcome}
use Rattle.program3.specs.declared.outcome.Report.{Report}

pub aside : {X : Type 0} (result : Result Report X) (plain : Report) (outcome : Outcome)
    (is_aside : Bool) → is_aside ≡ true → PrintsOutcome outcome plain
    → IfOk result (Prints plain.status [] (plain.out.items ++ plain.err.items))
    → IfOk result (IsReport is_aside outcome)
aside (Ok report) plain outcome is_aside is_true prints told =
    subst (λ b. IsReport b outcome report) (sym is_true) (plain, prints, told)
aside (Err error) plain outcome is_aside is_true prints told = tt

-- what holds after a call that did not fail
pub unless_failed : {X E : Type 0} (P : Type 0) (result : Result X E) → is_err result ≡ false
    → OnOk result P → P
unless_failed P (Ok x) not_failed p = p
unless_failed P (Err error) not_failed p = absurd (cc)
