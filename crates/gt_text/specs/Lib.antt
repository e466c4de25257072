pub mod Identifier
pub mod Integer
pub mod WhiteSpace
