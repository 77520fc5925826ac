-- The canonical form, whole and entry by entry.
pub mod CanonicalLemmas
pub mod CanonicalFormLemmas
pub mod CanonicalStreamLemmas
pub mod OneFormLemmas
pub mod Growing
