-- Shapes and layouts, by their parts.
pub mod Parts
pub mod ShapeParts
pub mod FlatLemmas
pub mod PlainLemmas
pub mod Layouts
pub mod Walks
