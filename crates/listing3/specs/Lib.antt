-- What a listing of a capture says.
pub mod Listing
pub mod Laws
pub mod Examples
pub mod machinery
