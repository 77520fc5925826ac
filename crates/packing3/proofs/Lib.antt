-- Lemmas of packing.
pub mod Common
pub mod Stops
pub mod Chunks
pub mod Connections
pub mod Captures
pub mod Histories
