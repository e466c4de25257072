pub mod ItemGrammar
pub mod Header
pub mod Answers
pub mod Reading
pub mod Unmarked
