pub mod Begins
pub mod Tries
pub mod Nodes
pub mod Ways
pub mod Paths
pub mod Ends
