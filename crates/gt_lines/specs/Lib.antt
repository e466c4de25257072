pub mod Runs
pub mod Lines
pub mod Calls
pub mod Scripts
