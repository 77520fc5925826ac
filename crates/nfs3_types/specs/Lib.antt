-- The parts of NFS version 3 and MOUNT version 3.
pub mod Status
pub mod MountStatus
pub mod FileKind
pub mod Stable
pub mod Handle
pub mod Shapes
pub mod Times
pub mod Items
pub mod Results
pub mod Mounts
pub mod machinery
