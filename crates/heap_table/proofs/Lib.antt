pub mod FewFields
pub mod Named
pub mod Pairing
pub mod Fitting
pub mod Graph
