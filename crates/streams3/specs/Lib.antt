-- What a recording shows of the bytes that one end of a connection sends.
pub mod Runs
pub mod Events
pub mod Streams
pub mod Repeats
pub mod Order
pub mod Content
pub mod machinery
