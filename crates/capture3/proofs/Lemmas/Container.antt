-- The container of both versions, and what of it a file tells.
pub mod ContainerLemmas
pub mod ContainerMachineLemmas
pub mod InPlaceLemmas
pub mod PositionLemmas
pub mod KeptStreamsLemmas
pub mod SidedChunksMachineLemmas
pub mod SidedChunksRules
pub mod Sizes
pub mod Determined
pub mod BytesOf
