pub mod Counting
pub mod Naming
pub mod Recordings
pub mod Summing
