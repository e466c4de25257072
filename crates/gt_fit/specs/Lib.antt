pub mod Values
pub mod Scoping
pub mod Fitting
pub mod InPlace
