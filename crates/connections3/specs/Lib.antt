-- Connections of TCP in a recording.
pub mod Ends
pub mod Packets
pub mod Numbers
pub mod Groups
pub mod Connections
pub mod Frames
pub mod machinery
