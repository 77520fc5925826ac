-- Writing the masked form.
pub mod WriterLemmas
pub mod FormLemmas
pub mod VisitedItems
pub mod RunLemmas
