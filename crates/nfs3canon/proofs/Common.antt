-- The names that most proofs of the crate cite, passed on from one place. Declares nothing.
pub use Rattle.capture3.specs.Device.{TracedReader}
pub use Rattle.capture3.specs.SidedChunks.{Streams}
pub use Rattle.capture3.specs.Observed.{Gave, GavePrefix, IsSpent}
pub use Rattle.capture3.specs.declared.fault.Error.{Error}
pub use Rattle.packing3.specs.Devices.{CountsReadings}
pub use Rattle.program3.proofs.FilesLemmas.{one_failed, prefix_of, observed_of}
pub use Rattle.program3.specs.Readings.{FileReading, IsByFailedRead, IsUnread, MayContain, reading_in, reading_under}
pub use Rattle.program3.specs.declared.outcome.Outcome.{Outcome}
pub use Rattle.std.proofs.Common.{Err, Global, IfErr, IfSome, List, Ok, Option, Result, Some, String, [], ap, append_assoc, ap₂, arith, false, if◌then◌else◌, inl, inr, is_err, is_ok, length, map, refl, slice_index_or, string_bytes, subst, suc, sym, take, take_all, zero, ℕ, ◌*◌, ◌++◌, ◌+◌, ◌/◌, ◌<◌, ◌∙◌, ◌∷◌, ◌≡◌, ◌≢◌, ◌≤◌, ◌⊎◌}
pub use Rattle.std.proofs.lemmas.List.{length-map, map-append, take_more}
pub use Rattle.nfs3canon.specs.Files.{AreOfFirst, AreReadStreams, ComparesFiles, CountsFile, FailsToOpenLater, IsReadWhole, ListsFile, OneHasFailed, PacksFile, PacksNone, RefusesStreams, WriterRun}
