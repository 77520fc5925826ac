-- What clauses inside the crate and proofs name, and no reader of a public clause has to believe.
pub mod Ordered
pub mod Ends
pub mod Heads
pub mod Contents
