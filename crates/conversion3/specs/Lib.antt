-- Which connections of a recording are chosen, which of these are whole, and what their ends sent.
pub mod OrderedConnections
pub mod Whole
pub mod Flaws
pub mod Judgments
pub mod Choice
pub mod Decisions
pub mod Sent
pub mod Packing
pub mod machinery
