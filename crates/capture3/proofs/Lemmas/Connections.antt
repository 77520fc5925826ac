-- Connections, and the tables of their calls.
pub mod ConnectionMachineLemmas
pub mod JudgedInTurn
pub mod KnownLemmas
pub mod NumberingLemmas
pub mod LineLemmas
pub mod RankLemmas
