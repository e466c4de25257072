pub mod Blocks
pub mod Addresses
pub mod Trials
