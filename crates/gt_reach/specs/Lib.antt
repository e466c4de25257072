pub mod Marking
pub mod Following
