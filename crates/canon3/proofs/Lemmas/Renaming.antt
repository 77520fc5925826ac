-- Renamings of values, and captures that are the same up to one.
pub mod RenamingLemmas
pub mod OneToOneLemmas
pub mod AgreementLemmas
pub mod Equality
