mod ChangeLemmas
mod GrammarLemmas
pub mod Common
pub mod LineLemmas
