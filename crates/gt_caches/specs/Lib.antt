pub mod Pairs
pub mod Staying
pub mod Kept
pub mod Held
