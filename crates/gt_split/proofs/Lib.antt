pub mod Options
mod Digits
mod Splits
pub mod Cuts
mod ManyWords
mod Quoting
pub mod Boundaries
