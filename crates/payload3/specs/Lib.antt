-- The bytes of a stream, read from a recording.
pub mod Readings
pub mod Standing
