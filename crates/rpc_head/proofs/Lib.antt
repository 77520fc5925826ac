pub mod Common
pub mod Lengths
pub mod Messages
pub mod MessageStartLemmas
pub mod HeadScanLemmas
pub mod HeadRunLemmas
pub mod OwnerLemmas
