-- Lemmas, by what they are about.
pub mod Reading
pub mod Shapes
pub mod Scans
