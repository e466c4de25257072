pub mod Types
pub mod Zeros
pub mod Tails
