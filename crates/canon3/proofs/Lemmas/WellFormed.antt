-- A capture whose values were renamed is well formed.
pub mod Conversations
pub mod Conversing
pub mod Files
pub mod Laid
pub mod Items
pub mod Messages
pub mod Nesting
