-- What was counted of the entries so far.
pub mod ProgressLemmas
pub mod SummaryLemmas
