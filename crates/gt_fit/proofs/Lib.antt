pub mod Values
pub mod PathSteps
pub mod Listing
pub mod PartsFit
pub mod Layers
pub mod Endings
pub mod Selves
