-- The index of a recording.
pub mod Numbers
pub mod Frames
pub mod Indexes
