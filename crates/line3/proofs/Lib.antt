pub mod Words
pub mod Reading
pub mod GrammarLemmas
pub mod LineLemmas
pub mod Common
