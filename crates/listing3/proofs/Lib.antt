-- Lemmas of listings.
pub mod Common
pub mod ListingLemmas
pub mod Lines
pub mod NamedItems
pub mod PutsBytesLemmas
pub mod Plain
pub mod Digits
pub mod Texts
pub mod Telling
pub mod HalvesLemmas
pub mod Runs
