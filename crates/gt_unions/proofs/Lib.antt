mod Structures
mod Starts
mod Plains
mod Lists
mod Candidates
pub mod OneCommon
pub mod CommonFound
pub mod TableLemmas
