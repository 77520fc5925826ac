-- Lemmas of canonical captures.
pub mod Common
pub mod Lemmas
pub mod Checks
