-- The readers `parse` and `Entries`, step by step.
pub mod EntriesLemmas
pub mod PairingLemmas
pub mod FileStandingLemmas
pub mod WholeEntries
pub mod WholeFiles
pub mod Lending
pub mod LendingLemmas
pub mod PassedOn
pub mod PlacingLemmas
pub mod ObservedLemmas
