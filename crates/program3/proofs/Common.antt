-- The names that most proofs of the crate cite, passed on from one place. Declares nothing.
pub use Rattle.canon3.specs.EntryWriter.{WritesAllCounted}
pub use Rattle.std.proofs.Common.{Bool, Err, IfOk, List, None, Ok, OnOk, Option, Result, Some, [], ap, append-nil, arith, eq-eqb, false, inl, inr, is_err, le-ltb, length, lt-ltb, min, ne_eqb, refl, subst, suc, sym, true, ℕ, ◌%◌, ◌*◌, ◌++◌, ◌+◌, ◌-◌, ◌/◌, ◌<◌, ◌^◌, ◌∙◌, ◌∷◌, ◌≡◌, ◌≢◌}
pub use Rattle.std.specs.Io.KnownBytes.{Appends, Keeps, append_known}
unfoldable pub use Rattle.program3.specs.Hashing.{folded_multiply, mix_blocks, read_short, write}
pub use Rattle.program3.specs.Readings.{FileReading, IsByFailedRead, IsUnread, MayContain, reading_in, reading_under}
pub use Rattle.program3.specs.declared.outcome.Outcome.{Outcome}
