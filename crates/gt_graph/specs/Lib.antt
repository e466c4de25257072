pub mod Objects
pub mod Places
pub mod Good
pub mod Changes
pub mod Kept
pub mod Rounds
pub mod Stands
