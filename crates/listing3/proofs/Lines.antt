-- Lemmas of the lines of a listing.
pub mod LineLemmas
pub mod LineTexts
pub mod GapLemmas
pub mod ItemsTexts
