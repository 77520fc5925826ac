-- Proofs on connections, and whole streams.
pub mod SpotLemmas
pub mod OrderedLemmas
pub mod ContentLemmas
pub mod EndLemmas
pub mod SentLemmas
pub mod ChoiceLemmas
pub mod DecisionLemmas
pub mod PackingLemmas
