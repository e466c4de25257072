pub mod Staying
pub mod Answering
