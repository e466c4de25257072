pub mod Lexemes
pub mod Search
pub mod Searching
