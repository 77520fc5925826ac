-- Classes of values, and the numbers of their values.
pub mod ClassLemmas
pub mod FewValues
pub mod FirstEntries
pub mod SpotLemmas
pub mod MessageSpotLemmas
pub mod KnownFieldLemmas
