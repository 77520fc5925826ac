-- Comparing two captures, and where they part.
pub mod ComparisonLemmas
pub mod PartingLemmas
pub mod Places
