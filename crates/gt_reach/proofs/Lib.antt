pub mod Tracing
pub mod Pairing
