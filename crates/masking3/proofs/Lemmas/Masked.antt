-- The masked form, and the captures that it does not tell apart.
pub mod MaskedLemmas
pub mod MaskedShapes
pub mod MaskedMessages
pub mod MaskedFiles
pub mod AgainLemmas
pub mod MaskingMore
pub mod SameButLemmas
