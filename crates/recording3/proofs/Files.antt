-- Files of recordings: parts, frames, and what was read so far.
pub mod ClocksLemmas
pub mod FramesLemmas
pub mod OutcomesLemmas
pub mod PartsLemmas
pub mod PcapLemmas
pub mod PcapngLemmas
pub mod ReadingLemmas
pub mod Windows
