pub mod FilesLemmas
pub mod PackingLemmas
pub mod Common
