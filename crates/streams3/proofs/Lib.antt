-- Lemmas about the definitions.
pub mod RunsLemmas
pub mod EventsLemmas
pub mod LogLemmas
pub mod MergingLemmas
pub mod RepeatsLemmas
pub mod OrderLemmas
pub mod BetweenLemmas
pub mod PartingLemmas
pub mod LawsLemmas
