pub mod ProtocolParts
pub mod ProcedureParts
pub mod HeadParts
pub mod Common
pub mod ItemLemmas
pub mod TableLemmas
