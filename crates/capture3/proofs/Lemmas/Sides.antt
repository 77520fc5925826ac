-- One side of a connection: its stream, its records and its messages.
pub mod StreamMachineLemmas
pub mod StreamEnds
pub mod SideMachineLemmas
pub mod SideRules
