-- What other values leave of a message, a conversation and a capture.
pub mod Shapes
pub mod Messages
pub mod Conversations
pub mod Numbers
