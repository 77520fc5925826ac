pub mod FilesLemmas
pub mod EndingLemmas
pub mod Common
