-- Which values are masked, and what becomes of them.
pub mod Spots
pub mod Classes
pub mod Ways
pub mod Texts
pub mod Unnamed
pub mod Masked
pub mod SameBut
pub mod Laws
pub mod Examples
pub mod machinery
