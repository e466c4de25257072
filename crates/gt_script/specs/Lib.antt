pub mod Values
pub mod Steps
pub mod SameSteps
pub mod Paths
pub mod Commands
pub mod Language
pub mod Outcome
pub mod Scanning
