pub mod Sets
pub mod Places
pub mod Runs
pub mod Summaries
