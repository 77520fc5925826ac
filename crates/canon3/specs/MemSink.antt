-- What a sink in memory holds.
use Rattle.std.specs.Prelude.{ℕ, List}

pub record MemoryWritten : Type 0 where
  pub bytes : List ℕ
  -- the bytes that were flushed
  pub flushed : List ℕ
  pub room : ℕ
  -- the most bytes that a call takes
  pub block : ℕ
  -- the call that fails, counted from the next one, which is 1; or 0
  pub fails_in : ℕ
  pub failures : ℕ
