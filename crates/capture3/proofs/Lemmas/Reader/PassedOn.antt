-- Errors that are passed on.
use Rattle.std.proofs.Common.{◌≡◌, Result, Ok, Err, ap}
use Rattle.std.specs.Result.{IsErr, IsErrAnd}

pub error_is : {X E : Type 0} (r : Result X E) (error : E) → IsErr r × IsErrAnd r (λ e. e ≡ error)
    → r ≡ Err error
error_is (Ok x) error passed = absurd passed.1
error_is (Err e) error passed = ap Err passed.1
