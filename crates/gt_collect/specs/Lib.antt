pub mod Modes
pub mod Clearing
pub mod Collecting
pub mod Finishing
pub mod Answering
