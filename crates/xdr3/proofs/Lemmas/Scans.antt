-- Scans, which pass items to a visitor.
pub mod ScanLemmas
pub mod CountedScanLemmas
pub mod LinkedScanLemmas
pub mod SizedScanLemmas
