pub mod Numbers
pub mod Commands
pub mod Calls
pub mod Ranges
