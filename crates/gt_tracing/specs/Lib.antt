pub mod Walked
pub mod Traces
pub mod Laws
