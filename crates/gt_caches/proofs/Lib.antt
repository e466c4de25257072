pub mod Entries
pub mod Totals
pub mod Sweeps
pub mod Places
pub mod Heaps
