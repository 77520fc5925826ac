-- What clauses inside the crate and proofs name, and no reader of a public clause has to believe.
pub mod LineWriter
pub mod Digits
pub mod Fields
pub mod ItemsText
pub mod PutsBytes
pub mod WritesText
