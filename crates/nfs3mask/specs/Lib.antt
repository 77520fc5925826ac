pub mod Changes
pub mod Grammar
pub mod MaskLine
pub mod Masking
pub mod machinery
