-- The numbers that values get: their ranks, and the tables that know them.
pub mod RankLemmas
pub mod Tables
pub mod HandleTableLemmas
