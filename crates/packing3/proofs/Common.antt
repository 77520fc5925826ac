-- The names that most proofs of the crate cite, passed on from one place. And two records.
pub use Rattle.canon3.proofs.Lemmas.Writing.SinkWritesLemmas.{front_of_first, front_of_second}
pub use Rattle.canon3.specs.Bytes.{chunk_bytes}
pub use Rattle.canon3.specs.SinkWrites.{AppendsFront}
pub use Rattle.capture3.proofs.Lemmas.Reader.PassedOn.{error_is}
pub use Rattle.capture3.proofs.Lemmas.Reader.ObservedLemmas.{IsPrefixOf, gave_both, gave_none, prefix_of_kept, prefix_of_observed}
pub use Rattle.capture3.specs.Capture.{IsCapture, IsConnection, One, magic, max_connections, total_size}
pub use Rattle.capture3.specs.Chunks.{IsChunk, IsStream, max_bytes}
pub use Rattle.capture3.specs.SidedChunks.{Streams, size}
pub use Rattle.capture3.specs.Observed.{Gave, GavePrefix, IsSpent, Observed}
pub use Rattle.capture3.specs.declared.fault.Error.{Error}
pub use Rattle.std.proofs.Common.{Err, IfErr, List, None, Ok, OnErr, OnOk, Result, [], ap, append-nil, append_assoc, arith, inl, inr, length, length-append, refl, rules, subst, sym, take, ℕ, ◌++◌, ◌+◌, ◌-◌, ◌<◌, ◌∙◌, ◌∷◌, ◌≡◌, ◌≤◌}
pub use Rattle.std.proofs.KnownBytes.{Appends-nil, Appends-trans}
pub use Rattle.std.proofs.lemmas.List.{length-take-le, take-append-le}
pub use Rattle.std.specs.Io.KnownBytes.{Appends}
pub use Rattle.std.specs.List.{concat, flat_map}
pub use Rattle.std.specs.Prelude.{Option}
pub use Rattle.xdr3.specs.Item.{word_bytes}
pub use Rattle.packing3.specs.Packed.{AreCut, ArePacked, IsPackedConnection, IsPackedStream, full_size}
pub use Rattle.packing3.specs.Stopped.{BreaksOff, ChunkPassesLimit, HasNoRoom, Explains}
pub use Rattle.packing3.specs.declared.extent.Extent.{Extent}
pub use Rattle.packing3.specs.machinery.Streaming.{CaptureSoFar, Grows, GrowsLittle, HasChunk, HasConnection, HasStream, IsStopped, StopsInChunk, StopsInConnection, StopsInStream, WritesConnection, WritesStream, last_chunk}
pub use Rattle.packing3.specs.Devices.{Sources}
pub use Rattle.packing3.specs.machinery.Streaming.{CaptureSoFar}

-- a capture as far as it is written
abbrev pub so_far : Option (List ℕ) → Extent → CaptureSoFar
so_far bytes extent = record { bytes = bytes; extent = extent }

-- what is observed of two sources, before and after
abbrev pub both_of : (client client_after server server_after : Observed) → Sources
both_of client client_after server server_after = record {
  client_before = client;
  client_after = client_after;
  server_before = server;
  server_after = server_after;
}
