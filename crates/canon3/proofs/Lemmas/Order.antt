-- The order of entries, and those that come first.
pub mod Order
pub mod InOrder
pub mod First
pub mod Prefixes
pub mod Reaching
pub mod Closing
pub mod Ends
