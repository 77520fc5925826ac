-- Lemmas of captures.
pub mod Common
pub mod Lemmas
