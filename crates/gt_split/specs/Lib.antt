pub mod Texts
pub mod Cutting
pub mod Numbers
pub mod Integers
