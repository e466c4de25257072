pub mod Expression
pub mod Grammar
pub mod Characters
pub mod Spelling
pub mod Parts
pub mod Reading
