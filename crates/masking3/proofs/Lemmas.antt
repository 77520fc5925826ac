-- Lemmas, by what they are about.
pub mod Classes
pub mod Masked
pub mod Unnamed
pub mod Writing
