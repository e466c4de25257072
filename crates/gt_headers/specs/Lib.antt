pub mod Reading
pub mod Sizes
pub mod Headers
pub mod Stops
