pub mod Common
pub mod Reading
pub mod CountingLemmas
pub mod SummingLemmas
