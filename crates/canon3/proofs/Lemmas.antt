-- Lemmas, by what they are about.
pub mod Renaming
pub mod Numbers
pub mod WellFormed
pub mod Changes
pub mod Canonical
pub mod Order
pub mod Writing
pub mod Comparison
pub mod Progress
