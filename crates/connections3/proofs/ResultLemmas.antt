-- What holds of an Ok or an Err that was tested.
use Rattle.std.proofs.Common.{◌≡◌, false, true, Err, Ok, Result, sym}
use Rattle.std.proofs.lemmas.Bool.{false≢true}
use Rattle.std.specs.Result.{OnErr, OnOk, is_err}

pub if_ok : {T E : Type 0} {P : Type 0} (r : Result T E) → OnOk r P → false ≡ is_err r → P
if_ok (Ok x) p e = p
if_ok (Err x) p e = absurd (false≢true e)

pub if_err : {T E : Type 0} {P : Type 0} (r : Result T E) → OnErr r P → true ≡ is_err r → P
if_err (Ok x) p e = absurd (false≢true (sym e))
if_err (Err x) p e = p
