pub mod EndsLemmas
pub mod NumbersLemmas
pub mod GroupsLemmas
pub mod ConnectionsLemmas
pub mod FramesLemmas
pub mod ResultLemmas
pub mod LawsLemmas
