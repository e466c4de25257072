pub mod Inner
pub mod Faults
pub mod Firsts
pub mod Parts
