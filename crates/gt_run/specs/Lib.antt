pub mod Comes
pub mod Runs
pub mod Outputs
pub mod Ended
pub mod Complete
pub mod Endings
pub mod Refusing
