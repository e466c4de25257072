pub mod Rows
pub mod ByRows
pub mod Sinks
pub mod Frames
pub mod Visiting
pub mod Nested
