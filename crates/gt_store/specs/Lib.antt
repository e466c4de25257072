pub mod Writing
pub mod Overlays
pub mod Leaf
pub mod Stored
