-- Lemmas of indexes.
pub mod FrameLemmas
pub mod WritingLemmas
