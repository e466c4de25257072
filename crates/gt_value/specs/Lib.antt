pub mod Values
pub mod Bytes
pub mod Names
pub mod Noughts
pub mod Reading
pub mod Places
pub mod Finding
pub mod Cursors
