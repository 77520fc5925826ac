-- The entries that bytes reach.
pub mod ReachedLemmas
pub mod ReachedMore
pub mod ReachedBeforeFaults
pub mod ReachedInTurn
pub mod Growing
pub mod EmittedEntries
pub mod Limits
