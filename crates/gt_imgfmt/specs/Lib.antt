pub mod Layout
pub mod Widths
pub mod Kinds
pub mod Laws
