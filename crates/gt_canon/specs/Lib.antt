pub mod Lines
pub mod Names
pub mod Expressions
pub mod Types
pub mod Canon
