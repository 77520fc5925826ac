-- Writing entries and their messages.
pub mod Opening
pub mod Noting
pub mod Visiting
pub mod SpellingLemmas
pub mod EntryWriterLemmas
pub mod SinkWritesLemmas
