-- Arguments and results by procedure.
pub mod Shapes
pub mod Table
pub mod Tagged
pub mod Files
pub mod Creation
pub mod Directories
pub mod FileSystem
pub mod Mounts
pub mod Items
pub mod Variants
