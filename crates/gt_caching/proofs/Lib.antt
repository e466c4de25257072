pub mod Caches
pub mod Variables
pub mod Puts
