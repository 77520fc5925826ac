-- What clauses inside the crate and proofs name, and no reader of a public clause has to believe.
pub mod ClassTables
pub mod MessageSpot
pub mod MaskingWriter
pub mod UnnamedBody
pub mod KnownFields
