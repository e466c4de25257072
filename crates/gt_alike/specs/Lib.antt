pub mod Alike
pub mod Prints
