-- The names that most proofs of the crate cite, passed on from one place. Declares nothing.
pub use Rattle.capture3.proofs.Lemmas.Reader.PassedOn.{error_is}
pub use Rattle.capture3.specs.Entries.{OnRefused, failure_of, source_of}
pub use Rattle.capture3.specs.Entry.{Entry}
pub use Rattle.capture3.specs.machinery.EntriesHistory.{StandsFor, entries_left}
pub use Rattle.std.proofs.Common.{Bool, Err, List, None, Ok, Option, Some, [], ap, arith, cond, count_by, false, min, refl, subst, sum_by, sym, true, ℕ, ◌++◌, ◌+◌, ◌∙◌, ◌∷◌, ◌≡◌, ◌≤◌}
pub use Rattle.std.proofs.lemmas.List.Sums.{sum_by-append, sum_by-cons}
pub use Rattle.xdr3.specs.Item.{Item}
pub use Rattle.uses.specs.Counting.{is_call_of, same_procedure}
