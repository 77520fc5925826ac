-- Lemmas of masked captures.
pub mod Common
pub mod Lemmas
