pub mod SpotWrites
pub mod Typing
pub mod Rewriting
pub mod FoundLeaves
