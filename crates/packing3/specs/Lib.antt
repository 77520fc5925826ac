pub mod Packed
pub mod Stopped
pub mod Devices
pub mod Packing
pub mod machinery
