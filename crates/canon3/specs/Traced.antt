-- A writer, and the bytes that its writes took.
use Rattle.std.specs.Prelude.{ℕ, List}

pub record TracedWriter (W : Type 0) : Type 0 where
  pub device : W
  pub taken : List ℕ
