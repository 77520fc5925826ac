-- Proofs on the bytes of a stream.
pub mod PartsLemmas
pub mod RecordedLemmas
pub mod TrailLemmas
