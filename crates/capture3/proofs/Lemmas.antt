-- Lemmas, by what they are about.
pub mod Container
pub mod Messages
pub mod Sides
pub mod Connections
pub mod Files
pub mod Reached
pub mod Reader
