-- What clauses inside the crate and proofs name, and no reader of a public clause has to believe.
pub mod ComparisonSteps
pub mod Reading
pub mod WritingSteps
pub mod MessageWriter
pub mod ProgressSteps
pub mod Spelling
