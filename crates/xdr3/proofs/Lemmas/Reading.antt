-- Reading a shape: what is read is so, and what is so is read.
pub mod Bytes
pub mod Items
pub mod Sound
pub mod Complete
pub mod Decided
pub mod Inputs
pub mod Reasons
pub mod Within
pub mod Counted
pub mod Linked
pub mod Sized
