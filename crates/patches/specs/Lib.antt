-- Replacements in a body of bytes.
pub mod Patches
pub mod machinery
